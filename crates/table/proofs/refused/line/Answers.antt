use mathlib.Core.Path.{◌≡◌, refl}
use native.Mathlib.Omega.{arith}
use Prim.Native.Nat.{◌+◌}
use lib.ListN.{length}
use Rattle.answers.proofs.Stores.{wrote_short, wrote_all}
use Rattle.table.specs.Lines.{refused_line}
use Rattle.table.proofs.Digits.{length-u64}
use Rattle.table.proofs.RefusedLines.{length-refused}
use Rattle.table.proofs.refused.line.Goals as goal

pub overflow_add-middle : goal.overflow_add-middle
overflow_add-middle c = omega (arith, length-u64 c.args.number (omega arith))

pub overflow_add-size : goal.overflow_add-size
overflow_add-size c = omega (arith, length-u64 c.args.block (omega arith))

pub overflow_add-size-2 : goal.overflow_add-size-2
overflow_add-size-2 c =
    omega (arith, length-u64 c.args.number (omega arith), length-u64 c.args.block (omega arith))

pub returns-then-out-size : goal.returns-then-out-size
returns-then-out-size c =
    let a = c.args in
    let long = length-refused a.number a.block in
    wrote_short (refused_line a.number a.block) a.out.now refl (omega arith) (omega arith)

pub returns : goal.returns
returns c =
    let a = c.args in
    let long = length-refused a.number a.block in
    let size : 8 + c.digits-middle.result + (9 + c.digits.result) ≡ length (refused_line a.number a.block) = omega arith in
    wrote_all (refused_line a.number a.block) a.out.now refl (omega (arith, c.if-out-size.false)) size c.put_line.ensures
