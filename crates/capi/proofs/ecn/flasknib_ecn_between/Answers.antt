use mathlib.Core.Path.{refl, sym, ap, ◌∙◌}
use Rattle.answers.proofs.Stores.{wrote_refused, wrote_short, wrote_all}
use Rattle.between.specs.PacketCalls.{since_kept}
use Rattle.lent.specs.EcnWords.{ecn_words}
use Rattle.capi.specs.Codes.{refusal_code}
use Rattle.capi.specs.CompoundCalls.{report_given, between_fault, between_words}
use Rattle.capi.proofs.Answers.{gives}
use Rattle.capi.proofs.ecn.flasknib_ecn_between.Goals as goal

pub returns-then-counts-lt-WORDS : goal.returns-then-counts-lt-WORDS
returns-then-counts-lt-WORDS c =
    let a = c.args in
    rw (sym c.since.ensures.value ∙ c.in-Ok.is)
    (gives refusal_code (wrote_short (ecn_words c.in-Ok.c) a.counts.now refl c.if-counts-lt-WORDS.true refl) refl)

pub returns-in-Err : goal.returns-in-Err
returns-in-Err c =
    let a = c.args in
    let told = since_kept (report_given a.later_highest a.later_ce a.later_lost) (report_given a.earlier_highest a.earlier_ce a.earlier_lost) in
    let is = sym c.since.ensures.value ∙ c.in-Err.is in
    gives refusal_code (wrote_refused (between_words told) a.counts.now (ap between_fault is)) c.number.ensures

pub returns-else-counts-lt-WORDS : goal.returns-else-counts-lt-WORDS
returns-else-counts-lt-WORDS c =
    let a = c.args in
    rw (sym c.since.ensures.value ∙ c.in-Ok.is)
    (gives refusal_code (wrote_all (ecn_words c.in-Ok.c) a.counts.now refl c.if-counts-lt-WORDS.false refl c.store.ensures) refl)
