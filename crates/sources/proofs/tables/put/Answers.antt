use mathlib.Core.Path.{refl, sym, ◌∙◌}
use Rattle.sources.specs.Changes.{changed}
use Rattle.sources.proofs.Pushes.{pushed_turn, pushed_done}
use Rattle.sources.proofs.tables.put.Goals as goal

pub loop-i-init : goal.loop-i-init
loop-i-init c = (refl, refl)

pub loop-i-preserved : goal.loop-i-preserved
loop-i-preserved c =
    let l = c.loop-i in
    let a = c.args in
    (l.invariant.0, sym (pushed_turn l.i a.change.end l.carried l.next.places c.loop-i-test.true) ∙ l.invariant.1)

pub returns : goal.returns
unfolding changed
returns c =
    let l = c.loop-i in
    let a = c.args in
    (sym (pushed_done l.i a.change.end l.carried l.next.places c.loop-i-test.false) ∙ l.invariant.1, l.invariant.0)
