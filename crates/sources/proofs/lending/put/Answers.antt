use mathlib.Core.Path.{refl, sym, ◌∙◌}
use lib.ListN.{length-set}
use Rattle.sources.specs.Changes.{changed}
use Rattle.sources.proofs.Pushes.{pushed_turn, pushed_done}
use Rattle.sources.proofs.lending.put.Goals as goal

pub loop-i-init : goal.loop-i-init
loop-i-init c = (refl, refl)

pub loop-i-preserved : goal.loop-i-preserved
loop-i-preserved c =
    let l = c.loop-i in
    (simp length-set l.invariant.0, sym (pushed_turn l.i c.args.change.end l.carried l.places c.loop-i-test.true) ∙ l.invariant.1)

pub returns : goal.returns
unfolding changed
returns c =
    let l = c.loop-i in
    sym (pushed_done l.i c.args.change.end l.carried l.places c.loop-i-test.false) ∙ l.invariant.1
