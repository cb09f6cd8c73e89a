use mathlib.Core.Path.{sym, ◌∙◌}
use Rattle.capi.proofs.Records.{arrives_other, arrives_next, arrives_restarted, arrives_jumped, arrives_refused}
use Rattle.capi.proofs.one_source.flasknib_arrive.Goals as goal

pub returns-in_default : goal.returns-in_default
returns-in_default c =
    let a = c.args in
    arrives_other a.words.now a.wire a.mark (sym c.load.ensures ∙ c.in_default.is)

pub returns-then-number-eq-JUMP : goal.returns-then-number-eq-JUMP
returns-then-number-eq-JUMP c =
    let a = c.args in
    let e = sym c.load.ensures ∙ c.in-Some.is in
    let w = arrives_jumped a.words.now a.wire a.mark _ e (sym c.arrive.ensures.value ∙ c.in-Refused.is)
    (sym c.number-number.ensures ∙ c.if-number-eq-JUMP.true) in
    record { answers = w.answers; stores = c.store-then-number-eq-JUMP.ensures ∙ w.stores }

pub returns-in-Accepted : goal.returns-in-Accepted
returns-in-Accepted c =
    let a = c.args in
    let e = sym c.load.ensures ∙ c.in-Some.is in
    let w = arrives_next a.words.now a.wire a.mark _ e (sym c.arrive.ensures.value ∙ c.in-Accepted.is) in
    record { answers = w.answers; stores = c.store.ensures ∙ w.stores }

pub returns-in-Restarted : goal.returns-in-Restarted
returns-in-Restarted c =
    let a = c.args in
    let e = sym c.load.ensures ∙ c.in-Some.is in
    let w = arrives_restarted a.words.now a.wire a.mark _ e (sym c.arrive.ensures.value ∙ c.in-Restarted.is) in
    record { answers = w.answers; stores = c.store-in-Restarted.ensures ∙ w.stores }

pub returns-else-number-eq-JUMP : goal.returns-else-number-eq-JUMP
returns-else-number-eq-JUMP c =
    let a = c.args in
    let e = sym c.load.ensures ∙ c.in-Some.is in
    let w = arrives_refused a.words.now a.wire a.mark _ e (sym c.arrive.ensures.value ∙ c.in-Refused.is)
    (λ z. c.if-number-eq-JUMP.false (c.number-number.ensures ∙ z)) in
    record { answers = c.number-number.ensures ∙ w.answers; stores = w.stores }
