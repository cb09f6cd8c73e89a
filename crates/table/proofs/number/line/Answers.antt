use mathlib.Core.Path.{◌≡◌, refl}
use native.Mathlib.Omega.{arith}
use Prim.Native.Nat.{◌+◌}
use lib.ListN.{length, length-set}
use Rattle.answers.proofs.Stores.{wrote_short, wrote_all}
use Rattle.table.specs.Lines.{number_line}
use Rattle.table.proofs.Digits.{length-u64}
use Rattle.table.proofs.NumberLines.{length-number, number_stored}
use Rattle.table.proofs.number.line.Goals as goal

pub overflow_add-size : goal.overflow_add-size
overflow_add-size c = omega (arith, length-u64 c.args.n (omega arith))

pub returns-then-out-size : goal.returns-then-out-size
returns-then-out-size c =
    let a = c.args in
    let long = length-number a.n in
    wrote_short (number_line a.n) a.out.now refl (omega arith) (omega arith)

pub bounds-out-size-2 : goal.bounds-out-size-2
bounds-out-size-2 c = simp length-set (omega (arith, c.put_before.auto.out))

pub returns : goal.returns
returns c =
    let a = c.args in
    let put = c.put_before in
    let long = length-number a.n in
    let size : c.digits-size.result + 2 ≡ length (number_line a.n) = omega arith in
    wrote_all (number_line a.n) a.out.now refl (omega (arith, c.if-out-size.false)) size
    (number_stored a.n a.out.now put.result (c.digits-size.result + 2) (omega arith) put.ensures.begins put.ensures.written)
