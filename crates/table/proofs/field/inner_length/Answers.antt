use borrow.Author.Rules.{rules}
use mathlib.Core.Path.{ap}
use Prim.Native.Nat.{ℕ}
use native.Mathlib.Omega.{arith}
use native.Mathlib.Nat.{zero-add}
use lib.ListN.{length, get_or}
use Rattle.table.proofs.Texts.{length-turn, byte_length, doubled_done}
use Rattle.table.proofs.field.inner_length.Goals.{After-byte_length-count}
use Rattle.table.proofs.field.inner_length.Goals as goal

-- the byte of a turn
abbrev byte : (c : After-byte_length-count) → ℕ
byte c = get_or c.args.s.now c.loop-c.c-index 0

pub loop-c-init : goal.loop-c-init
loop-c-init c = (search rules, zero-add _)

pub overflow_add-count : goal.overflow_add-count
overflow_add-count c = omega (arith, byte_length (byte (goal.at.overflow_add-count c).After-byte_length-count))

pub loop-c-preserved : goal.loop-c-preserved
loop-c-preserved c =
    let loop = c.loop-c in
    let turn = length-turn c.args.s.now loop.c-index c.loop-c-test.true in
    (omega (arith, byte_length (byte (goal.at.loop-c-preserved c).After-byte_length-count)), omega (arith, turn))

pub returns : goal.returns
returns c = omega (arith, ap length (doubled_done c.args.s.now c.loop-c.c-index c.loop-c-test.false))
