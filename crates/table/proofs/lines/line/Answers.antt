use mathlib.Core.Path.{◌≡◌, refl}
use native.Mathlib.Omega.{arith}
use Prim.Native.Nat.{◌+◌, ◌≤◌}
use lib.ListN.{length}
use Rattle.answers.proofs.Stores.{wrote_short, wrote_all}
use Rattle.table.specs.Parts.{whole}
use Rattle.table.proofs.Commas.{length-tail, length_whole, minus_most}
use Rattle.table.proofs.Texts.{field_most}
use Rattle.table.proofs.lines.line.Goals.{After-signed_length}
use Rattle.table.proofs.lines.line.Goals as goal

-- the length is the row's
total : (c : After-signed_length)
    → c.field_length-long.result + c.numbers_length-before.result + c.signed_length.result + c.numbers_length-behind.result + 3
    ≡ length (whole c.args.label.now c.args.front.now c.args.below c.args.size c.args.back.now)
total c =
    let a = c.args in
    omega (arith, length_whole a.below a.size a.back.now a.label.now a.front.now, length-tail a.below a.size a.back.now)

small : (c : After-signed_length) → (c.field_length-long.result ≤ 1006) × (c.signed_length.result ≤ 21)
small c =
    (omega (arith, field_most c.args.label.now c.requires.0), omega (arith, minus_most c.args.below c.args.size (omega arith)))

pub overflow_add-total : goal.overflow_add-total
overflow_add-total c =
    omega (arith, field_most c.args.label.now c.requires.0)

pub overflow_add-total-2 : goal.overflow_add-total-2
overflow_add-total-2 c = omega (arith, small (goal.at.overflow_add-total-2 c).After-signed_length)

pub overflow_add-total-3 : goal.overflow_add-total-3
overflow_add-total-3 c = omega (arith, small (goal.at.overflow_add-total-3 c).After-signed_length)

pub overflow_add-total-4 : goal.overflow_add-total-4
overflow_add-total-4 c = omega (arith, small (goal.at.overflow_add-total-4 c).After-signed_length)

pub returns-then-out-total : goal.returns-then-out-total
returns-then-out-total c =
    let a = c.args in
    let row = whole a.label.now a.front.now a.below a.size a.back.now in
    wrote_short row a.out.now refl (omega (arith, total (goal.at.returns-then-out-total c).After-signed_length)) (total (goal.at.returns-then-out-total c).After-signed_length)

pub put_line-requires : goal.put_line-requires
put_line-requires c = (c.field_length-long.ensures, total (goal.at.put_line-requires c).After-signed_length, c.if-out-total.false)

pub returns : goal.returns
returns c =
    let a = c.args in
    let row = whole a.label.now a.front.now a.below a.size a.back.now in
    let size = total (goal.at.returns c).After-signed_length in
    wrote_all row a.out.now refl (omega (arith, c.if-out-total.false)) size c.put_line.ensures
