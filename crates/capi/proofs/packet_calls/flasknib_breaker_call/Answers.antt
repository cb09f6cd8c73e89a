use mathlib.Core.Path.{sym, ap, ◌∙◌}
use lib.Seq.{sets}
use Rattle.between.specs.declared.calls.PacketCall.{PacketCall}
use Rattle.lent.specs.KeptWords.{kept_words}
use Rattle.lent.specs.CallWords.{call_words}
use Rattle.capi.proofs.PacketSteps.{no_compound, nothing_kept, call_short, call_told}
use Rattle.capi.proofs.packet_calls.flasknib_breaker_call.Goals as goal

pub returns-in_default : goal.returns-in_default
returns-in_default c =
    let a = c.args in
    let w = no_compound a.found.now a.kept.now a.call.now (sym c.load.ensures ∙ c.in_default.is) in
    record { answers = c.number.ensures ∙ w.answers; keeps = w.keeps; stores = w.stores }

pub returns-in_default-load : goal.returns-in_default-load
returns-in_default-load c =
    let a = c.args in
    let e = sym c.load.ensures ∙ c.in-Some.is in
    let w = nothing_kept a.found.now a.kept.now a.call.now e (sym c.load-2.ensures ∙ c.in_default-load.is) in
    record { answers = c.number-in_default-load.ensures ∙ w.answers; keeps = w.keeps; stores = w.stores }

pub returns-then-call-lt-WORDS : goal.returns-then-call-lt-WORDS
returns-then-call-lt-WORDS c =
    let a = c.args in
    let e = sym c.load.ensures ∙ c.in-Some.is in
    let f = sym c.load-2.ensures ∙ c.in-Some-load.is in
    call_short a.found.now a.kept.now a.call.now e f c.if-call-lt-WORDS.true

pub returns : goal.returns
returns c =
    let a = c.args in
    let e = sym c.load.ensures ∙ c.in-Some.is in
    let f = sym c.load-2.ensures ∙ c.in-Some-load.is in
    let next = c.call_for-next.ensures in
    let w = call_told a.found.now a.kept.now a.call.now e f c.if-call-lt-WORDS.false in
    record {
      answers = w.answers;
      keeps = c.store-2.ensures ∙ ap (λ (p : PacketCall). sets a.kept.now 0 (kept_words p.kept)) next ∙ w.keeps;
      stores = c.store.ensures ∙ ap (λ (p : PacketCall). sets a.call.now 0 (call_words p.call)) next ∙ w.stores;
    }
