use Rattle.std.specs.Prelude.{Some}
use mathlib.Core.Path.{◌≡◌, ap}
use native.Mathlib.Omega.{arith}
use Prim.Native.Nat.{◌+◌, ◌-◌, ◌≤◌}
use borrow.Author.Tests.{le-leb, lt-leb}
use lib.Pow.{pow_pos}
use Rattle.source.proofs.Shifts.{one_shl}
use Rattle.engine.proofs.InRow.{row_bits}
use Rattle.engine.proofs.window.row.Goals as goal

pub returns-then-below-last : goal.returns-then-below-last
returns-then-below-last c = let a = c.args in rw (lt-leb a.n (a.below + 1) (omega arith))

pub overflow_sub-result : goal.overflow_sub-result
overflow_sub-result c = let a = c.args in rw (one_shl a.n (omega arith)) (pow_pos a.n)

pub returns : goal.returns
returns c =
    let a = c.args in
    let few : a.n ≤ a.below + 1 = omega arith in
    let sum : a.below - (a.n - 1) + a.n ≡ a.below + 1 = omega arith in
    rw (le-leb a.n (a.below + 1) few, one_shl a.n (omega arith)) (ap Some (row_bits a.n (a.below - (a.n - 1)) a.below sum c.requires.2))
