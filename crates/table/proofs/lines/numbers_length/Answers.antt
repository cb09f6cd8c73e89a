use mathlib.Core.Path.{ap}
use Prim.Native.Nat.{ℕ, ◌≤◌}
use native.Mathlib.Omega.{arith}
use lib.ListN.{length, get_or}
use Rattle.table.specs.Decimal.{decimal}
use Rattle.table.proofs.Digits.{length-u64}
use Rattle.table.proofs.Commas.{commas_length, commas_done}
use Rattle.table.proofs.lines.numbers_length.Goals.{After-digits}
use Rattle.table.proofs.lines.numbers_length.Goals as goal

-- the number of a turn, and its digits
abbrev number : (c : After-digits) → ℕ
number c = get_or c.args.ns.now c.loop-n.n-index 0

few : (c : After-digits) → length (decimal (number c)) ≤ 20
few c = length-u64 (number c) (omega (arith, c.type_inv.ns c.loop-n.n-index))

pub overflow_add-count : goal.overflow_add-count
overflow_add-count c = omega (arith, few (goal.at.overflow_add-count c).After-digits)

pub overflow_add-count-in-loop-n : goal.overflow_add-count-in-loop-n
overflow_add-count-in-loop-n c = omega (arith, few (goal.at.overflow_add-count-in-loop-n c).After-digits)

pub loop-n-preserved : goal.loop-n-preserved
loop-n-preserved c =
    let ns = c.args.ns.now in
    omega (arith, few (goal.at.loop-n-preserved c).After-digits, commas_length ns c.loop-n.n-index c.loop-n-test.true)

pub returns : goal.returns
returns c = omega (arith, ap length (commas_done c.args.ns.now c.loop-n.n-index c.loop-n-test.false))
