use native.Mathlib.Omega.{arith}
use Rattle.table.specs.Parts.{minus}
use Rattle.table.proofs.Digits.{length-u64}
use Rattle.table.proofs.decimal.signed_length.Goals as goal

pub overflow_add-result : goal.overflow_add-result
overflow_add-result c = omega (arith, length-u64 c.args.size (omega arith))

pub returns-then-below : goal.returns-then-below
unfolding minus
returns-then-below c = rw c.if-below.true (omega arith)

pub returns : goal.returns
unfolding minus
returns c = rw c.if-below.false c.digits-long.ensures
