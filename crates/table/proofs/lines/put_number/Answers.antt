use native.Mathlib.Omega.{arith}
use Prim.Native.Nat.{◌-◌}
use Rattle.table.specs.Decimal.{decimal}
use Rattle.table.proofs.Backwards.{store_one}
use Rattle.table.proofs.lines.put_number.Goals as goal

pub returns : goal.returns
returns c =
    let a = c.args in
    let put = c.put_before-at in
    record { begins = omega arith; written = store_one a.out.now (put.result - 1) 44 (decimal a.n) (omega arith) put.ensures.written }
