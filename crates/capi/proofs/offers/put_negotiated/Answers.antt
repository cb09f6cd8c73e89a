use mathlib.Core.Path.{sym, ap, ◌∙◌}
use lib.Seq.{sets}
use Rattle.std.specs.Prelude.{Ok}
use Rattle.sdp.specs.declared.Attribute.{Attribute}
use Rattle.lent.specs.AttributeWords.{attribute_words}
use Rattle.capi.proofs.AttributeSteps.{told_by, tell_refused, tell_left_out, tell_short, tell_chosen}
use Rattle.capi.proofs.offers.put_negotiated.Goals as goal

pub returns-then-found-lt-WORDS : goal.returns-then-found-lt-WORDS
returns-then-found-lt-WORDS c =
    told_by (sym (c.in-Ok.is ∙ ap Ok c.in-Some.is)) _ _ _ (tell_short c.args.found.now c.in-Some.chosen c.if-found-lt-WORDS.true)

pub returns-in-Err : goal.returns-in-Err
returns-in-Err c =
    let t = tell_refused c.args.found.now c.in-Err.refusal in
    told_by (sym c.in-Err.is) _ _ _ (record { answers = c.number.ensures ∙ t.answers; stores = t.stores })

pub returns-in-None : goal.returns-in-None
returns-in-None c =
    told_by (sym (c.in-Ok.is ∙ ap Ok c.in-None.is)) _ _ _ (tell_left_out c.args.found.now)

pub returns-else-found-lt-WORDS : goal.returns-else-found-lt-WORDS
returns-else-found-lt-WORDS c =
    let old = c.args.found.now in
    let t = tell_chosen old c.in-Some.chosen c.if-found-lt-WORDS.false in
    let left = c.store.ensures ∙ ap (λ (a : Attribute). sets old 0 (attribute_words a)) c.attribute.ensures in
    told_by (sym (c.in-Ok.is ∙ ap Ok c.in-Some.is)) _ _ _ (record { answers = t.answers; stores = left ∙ t.stores })
