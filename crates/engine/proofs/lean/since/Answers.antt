use mathlib.Core.Path.{refl}
use native.Mathlib.Omega.{arith}
use Prim.Native.Nat.{◌/◌, ◌%◌, ◌^◌}
use borrow.Author.Tests.{eq-eqb, ne_eqb}
use Rattle.engine.specs.Lean.{still_counted}
use Rattle.engine.proofs.lean.since.Goals as goal

pub returns-then-counts-eq0 : goal.returns-then-counts-eq0
unfolding still_counted
returns-then-counts-eq0 c = let a = c.args in (rw (eq-eqb (a.counts / 256 ^ 6 % 256) 0 c.if-counts-eq0.true) refl, omega arith)

pub returns-else-counts-eq0 : goal.returns-else-counts-eq0
unfolding still_counted
returns-else-counts-eq0 c = let a = c.args in (rw (ne_eqb (a.counts / 256 ^ 6 % 256) 0 c.if-counts-eq0.false) refl, omega arith)
