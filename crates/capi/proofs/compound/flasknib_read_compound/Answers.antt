use mathlib.Core.Path.{refl, sym, ap, ◌∙◌}
use native.Mathlib.Omega.{arith}
use Rattle.answers.proofs.Stores.{wrote_refused, wrote_short, wrote_all}
use Rattle.lent.specs.CompoundWords.{compound_words}
use Rattle.lent.proofs.Parts.{length-compound}
use Rattle.capi.specs.Codes.{refusal_code}
use Rattle.capi.specs.CompoundCalls.{reading_by, reading_fault, reading_words}
use Rattle.capi.proofs.Answers.{gives}
use Rattle.capi.proofs.compound.flasknib_read_compound.Goals as goal

pub returns-then-found-lt-WORDS : goal.returns-then-found-lt-WORDS
returns-then-found-lt-WORDS c =
    let a = c.args in
    let told = sym c.read_by.ensures ∙ c.in-Ok.is in
    rw told (gives refusal_code
    (wrote_short (compound_words c.in-Ok.c) a.found.now refl (omega (arith, length-compound c.in-Ok.c, c.if-found-lt-WORDS.true))
    (sym (length-compound c.in-Ok.c))) refl)

pub returns-in-Err : goal.returns-in-Err
returns-in-Err c =
    let a = c.args in
    let told = sym c.read_by.ensures ∙ c.in-Err.is in
    gives refusal_code (wrote_refused (reading_words (reading_by a.profile a.bytes.now a.media)) a.found.now (ap reading_fault told)) c.number.ensures

pub returns-else-found-lt-WORDS : goal.returns-else-found-lt-WORDS
returns-else-found-lt-WORDS c =
    let a = c.args in
    let told = sym c.read_by.ensures ∙ c.in-Ok.is in
    rw told (gives refusal_code
    (wrote_all (compound_words c.in-Ok.c) a.found.now refl (omega (arith, length-compound c.in-Ok.c, c.if-found-lt-WORDS.false)) refl
    c.store.ensures) refl)
