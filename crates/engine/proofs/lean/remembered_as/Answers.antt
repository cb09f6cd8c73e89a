use mathlib.Core.Path.{refl}
use borrow.Author.Tests.{eq-eqb, ne_eqb}
use Rattle.engine.specs.Lean.{remembered_as}
use Rattle.engine.proofs.lean.remembered_as.Goals as goal

pub returns-then-awaited-eq-NONE : goal.returns-then-awaited-eq-NONE
unfolding remembered_as
returns-then-awaited-eq-NONE c = rw (eq-eqb c.args.awaited 65536 c.if-awaited-eq-NONE.true) refl

pub returns : goal.returns
unfolding remembered_as
returns c = rw (ne_eqb c.args.awaited 65536 c.if-awaited-eq-NONE.false) refl
