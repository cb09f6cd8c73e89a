use mathlib.Core.Path.{refl}
use native.Mathlib.Omega.{arith}
use Rattle.capi.proofs.table_walk.ended.Goals as goal

pub returns-then-are_zero : goal.returns-then-are_zero
returns-then-are_zero c = λ h. (c.are_zero.ensures c.if-are_zero.true, refl)

pub returns : goal.returns
returns c = λ h. absurd (omega arith)
