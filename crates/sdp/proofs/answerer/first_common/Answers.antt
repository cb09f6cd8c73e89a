use mathlib.Core.Path.{refl, sym, ◌∙◌}
use Rattle.sdp.specs.declared.Method.TheVariants.{Rtp}
use Rattle.sdp.specs.Writing.{methods_in}
use Rattle.sdp.proofs.Texting.{method_next, methods_done, first_stops, first_goes, first_done}
use Rattle.sdp.proofs.answerer.first_common.Goals as goal

pub loop-method-init : goal.loop-method-init
loop-method-init c = refl

pub returns-then-is_named : goal.returns-then-is_named
returns-then-is_named c =
    let ours = c.args.ours in
    let i = c.loop-method.method-index in
    first_stops (methods_in c.args.offer) (methods_in ours) ours _ i (method_next (methods_in ours) i Rtp c.loop-method-test.true)
    (sym c.is_named.ensures ∙ c.if-is_named.true) ∙ c.loop-method.invariant

pub loop-method-preserved : goal.loop-method-preserved
loop-method-preserved c =
    let ours = c.args.ours in
    let i = c.loop-method.method-index in
    first_goes (methods_in c.args.offer) (methods_in ours) ours _ i (method_next (methods_in ours) i Rtp c.loop-method-test.true)
    (sym c.is_named.ensures ∙ c.if-is_named.false) ∙ c.loop-method.invariant

pub returns : goal.returns
returns c =
    let ours = c.args.ours in
    let i = c.loop-method.method-index in
    first_done (methods_in c.args.offer) (methods_in ours) ours i (methods_done (methods_in ours) i c.loop-method-test.false) ∙ c.loop-method.invariant
