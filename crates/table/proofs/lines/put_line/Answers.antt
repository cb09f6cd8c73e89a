use mathlib.Core.Path.{◌≡◌, sym}
use native.Mathlib.Omega.{arith}
use Prim.Native.Nat.{◌+◌}
use mathlib.Core.List.{◌++◌}
use lib.ListN.{length}
use Rattle.table.specs.Parts.{behind_commas, tail, whole}
use Rattle.table.proofs.Commas.{length_whole}
use Rattle.table.proofs.Backwards.{sets-back}
use Rattle.table.specs.Field.{as_field}
use Rattle.table.proofs.lines.put_line.Goals.{Start}
use Rattle.table.proofs.lines.put_line.Goals as goal

total : (c : Start)
    → length (whole c.args.label.now c.args.front.now c.args.below c.args.size c.args.back.now)
    ≡ length (as_field c.args.label.now) + length (behind_commas c.args.front.now) + length (tail c.args.below c.args.size c.args.back.now)
total c = length_whole c.args.below c.args.size c.args.back.now c.args.label.now c.args.front.now

pub put_tail-a-requires : goal.put_tail-a-requires
put_tail-a-requires c = omega (arith, total (goal.at.put_tail-a-requires c).Start)

pub put_numbers-requires : goal.put_numbers-requires
put_numbers-requires c =
    omega (arith, total (goal.at.put_numbers-requires c).Start, c.put_tail-a.ensures.begins, c.put_tail-a.auto.out)

pub put_field-requires : goal.put_field-requires
put_field-requires c =
    omega (arith, total (goal.at.put_field-requires c).Start, c.put_tail-a.ensures.begins, c.put_numbers.ensures.begins)

pub returns : goal.returns
unfolding whole
returns c =
    let old = c.args.out.now in
    let end = c.put_tail-a in
    let numbers = c.put_numbers in
    let front = behind_commas c.args.front.now in
    let rest = tail c.args.below c.args.size c.args.back.now in
    let place : numbers.result ≡ 0 + length (as_field c.args.label.now) = omega (arith, total (goal.at.returns c).Start, numbers.ensures.begins, end.ensures.begins) in
    let first = sets-back old numbers.result front rest (sym numbers.ensures.begins) end.ensures.written numbers.ensures.written in
    sets-back old 0 (as_field c.args.label.now) (front ++ rest) place first c.put_field.ensures
