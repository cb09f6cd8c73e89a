use mathlib.Core.Path.{◌≡◌, ap}
use native.Mathlib.Omega.{arith}
use Prim.Native.Nat.{◌-◌}
use mathlib.Core.List.{◌∷◌}
use lib.ListN.{length, length-set}
use Rattle.table.specs.Decimal.{decimal}
use Rattle.table.specs.Parts.{minus}
use Rattle.table.proofs.Backwards.{store_two}
use Rattle.table.proofs.lines.put_signed.Goals.{Else-below, Then-below}
use Rattle.table.proofs.lines.put_signed.Goals as goal

-- the bytes of a negative number, and of any other
negative : (c : Then-below) → minus c.args.below c.args.size ≡ 45 ∷ decimal c.args.size
unfolding minus
negative c = rw c.if-below.true

other : (c : Else-below) → minus c.args.below c.args.size ≡ decimal c.args.size
unfolding minus
other c = rw c.if-below.false

pub put_before-at-requires : goal.put_before-at-requires
put_before-at-requires c = omega (arith, ap length (negative (goal.at.put_before-at-requires c).Then-below))

pub overflow_sub-at : goal.overflow_sub-at
overflow_sub-at c = omega (arith, ap length (negative (goal.at.overflow_sub-at c).Then-below))

pub bounds-out-at-then-below : goal.bounds-out-at-then-below
bounds-out-at-then-below c =
    simp length-set (omega (arith, ap length (negative (goal.at.bounds-out-at-then-below c).Then-below), c.put_before-at.auto.out))

pub returns-then-below : goal.returns-then-below
returns-then-below c =
    let put = c.put_before-at in
    let is = negative (goal.at.returns-then-below c).Then-below in
    record { begins = omega (arith, ap length is); written = rw is (store_two c.args.out.now (put.result - 2) 44 (decimal c.args.size) 45 (omega (arith, ap length is)) put.ensures.written) }

pub put_number-requires : goal.put_number-requires
put_number-requires c = omega (arith, ap length (other (goal.at.put_number-requires c).Else-below))

pub returns : goal.returns
returns c = rw (other (goal.at.returns c).Else-below) c.put_number.ensures
