use mathlib.Core.Path.{sym, ◌∙◌}
use Rattle.answers.specs.declared.Refusal.TheVariants as refusal
use Rattle.capi.proofs.AttributeSteps.{told_by, tell_refused, no_offer, no_abilities, both_held}
use Rattle.capi.proofs.offers.flasknib_answer.Goals as goal

pub returns-in_default : goal.returns-in_default
returns-in_default c =
    let a = c.args in
    let t = tell_refused a.found.now refusal.Malformed in
    told_by (no_offer a.offer.now a.ours.now (sym c.load.ensures ∙ c.in_default.is)) _ _ _
    (record { answers = c.number.ensures ∙ t.answers; stores = t.stores })

pub returns-in-None : goal.returns-in-None
returns-in-None c =
    let a = c.args in
    let t = tell_refused a.found.now refusal.Malformed in
    told_by (no_abilities a.offer.now a.ours.now (sym c.load.ensures ∙ c.in-Some.is) (sym c.load-2.ensures ∙ c.in-None.is)) _ _ _
    (record { answers = c.number-in-None.ensures ∙ t.answers; stores = t.stores })

pub returns-in-Some-load : goal.returns-in-Some-load
returns-in-Some-load c =
    let a = c.args in
    told_by (c.answer.ensures.value ∙ both_held a.offer.now a.ours.now (sym c.load.ensures ∙ c.in-Some.is) (sym c.load-2.ensures ∙ c.in-Some-load.is)) _ _ _
    c.put_negotiated.ensures
