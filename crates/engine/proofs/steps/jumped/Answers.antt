use mathlib.Core.Path.{refl, ◌∙◌}
use borrow.Author.Tests.{eq-eqb, ne_eqb}
use Rattle.engine.specs.Lean.{jumped}
use Rattle.engine.proofs.steps.jumped.Goals as goal

pub returns-then-number-t : goal.returns-then-number-t
unfolding jumped
returns-then-number-t c =
    let a = c.args in c.restarted.ensures ∙ rw (eq-eqb a.number a.t.awaited c.if-number-t.true) refl

pub returns : goal.returns
unfolding jumped
returns c =
    let a = c.args in rw (ne_eqb a.number a.t.awaited c.if-number-t.false) refl
