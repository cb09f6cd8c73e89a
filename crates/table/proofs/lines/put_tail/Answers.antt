use mathlib.Core.Path.{◌≡◌, sym, ◌∙◌}
use native.Mathlib.Omega.{arith}
use Prim.Native.Nat.{◌+◌}
use mathlib.Core.List.{[], ◌∷◌, ◌++◌}
use lib.ListN.{length, length-set}
use Rattle.table.specs.Parts.{behind_commas, minus, tail}
use Rattle.table.proofs.Commas.{length-tail}
use Rattle.table.proofs.Backwards.{sets-back, store_end}
use Rattle.table.proofs.lines.put_tail.Goals.{After-put_numbers-a, Start}
use Rattle.table.proofs.lines.put_tail.Goals as goal

total : (c : Start)
    → length (tail c.args.below c.args.size c.args.back.now)
    ≡ length (minus c.args.below c.args.size) + length (behind_commas c.args.back.now) + 3
total c = length-tail c.args.below c.args.size c.args.back.now

kept : (c : After-put_numbers-a) → length c.put_numbers-a.new.out ≡ length c.args.out.now
kept c = c.put_numbers-a.auto.out ∙ simp length-set

pub overflow_sub-out : goal.overflow_sub-out
overflow_sub-out c = omega (arith, total (goal.at.overflow_sub-out c).Start)

pub bounds-out-end : goal.bounds-out-end
bounds-out-end c = omega (arith, total (goal.at.bounds-out-end c).Start)

pub overflow_sub-out-2 : goal.overflow_sub-out-2
overflow_sub-out-2 c = omega (arith, total (goal.at.overflow_sub-out-2 c).Start)

pub bounds-out-end-2 : goal.bounds-out-end-2
bounds-out-end-2 c = simp length-set (omega (arith, total (goal.at.bounds-out-end-2 c).Start))

pub overflow_sub-end : goal.overflow_sub-end
overflow_sub-end c = omega (arith, total (goal.at.overflow_sub-end c).Start)

pub put_numbers-a-requires : goal.put_numbers-a-requires
put_numbers-a-requires c = simp length-set (omega (arith, total (goal.at.put_numbers-a-requires c).Start))

pub put_signed-requires : goal.put_signed-requires
put_signed-requires c = omega (arith, total (goal.at.put_signed-requires c).Start, kept (goal.at.put_signed-requires c).After-put_numbers-a)

pub shape_of-out : goal.shape_of-out
shape_of-out c = c.put_signed.auto.out ∙ kept (goal.at.shape_of-out c).After-put_numbers-a

pub returns : goal.returns
unfolding tail
returns c =
    let old = c.args.out.now in
    let numbers = c.put_numbers-a in
    let sign = c.put_signed in
    let back = behind_commas c.args.back.now in
    let place : sign.result + length (tail c.args.below c.args.size c.args.back.now) ≡ c.args.end = omega (arith, total (goal.at.returns c).Start) in
    let next : numbers.result ≡ sign.result + length (44 ∷ minus c.args.below c.args.size) = omega arith in
    let first = sets-back old numbers.result back (13 ∷ 10 ∷ []) (sym numbers.ensures.begins) (store_end old c.args.end 13 10 (omega (arith, total (goal.at.returns c).Start))) numbers.ensures.written in
    record { begins = place; written = sets-back old sign.result (44 ∷ minus c.args.below c.args.size) (back ++ (13 ∷ 10 ∷ [])) next first sign.ensures.written }
