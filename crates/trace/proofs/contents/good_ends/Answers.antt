use Rattle.std.proofs.Common.{◌+◌, ◌*◌, ◌≤◌, length, drop, sym, refl, ap, ◌∙◌, arith, length-drop}
use Rattle.answers.proofs.Conditions.{was_true, was_false}
use Rattle.trace.proofs.Tallies.{mul_part}
use Rattle.trace.proofs.Decisions.{part_tail}
use Rattle.trace.proofs.Records.{part_good, part_bad}
use Rattle.trace.specs.Contents.{good_records}
use Rattle.trace.proofs.contents.good_ends.Goals.{In-loop-left}
use Rattle.trace.proofs.contents.good_ends.Goals as goal

room : (c : In-loop-left) → c.loop-left.at + 10 * c.args.step ≤ length c.args.body.now
room c = omega (arith, mul_part 10 c.loop-left.left c.args.step c.loop-left-test.true)

pub loop-left-init : goal.loop-left-init
loop-left-init c = (omega arith, λ shape e. refl)

pub good_part-requires : goal.good_part-requires
good_part-requires c =
    let a = c.args in
    (omega arith, rw (part_tail a.body.now c.loop-left.at, length-drop) (omega (arith, room (goal.at.good_part-requires c).In-loop-left)))

pub returns-then-not-good_part : goal.returns-then-not-good_part
returns-then-not-good_part c =
    let s = c.args.body.now in
    let loop = c.loop-left in
    λ shape e. part_bad shape 10 loop.left c.loop-left-test.true (drop loop.at s)
    (ap (good_records shape 10) (sym (part_tail s loop.at)) ∙ was_false (c.good_part.ensures shape e) c.if-not-good_part.true)
    ∙ loop.invariant.1 shape e

pub overflow_mul-at : goal.overflow_mul-at
overflow_mul-at c = omega (arith, room (goal.at.overflow_mul-at c).In-loop-left)

pub overflow_add-at : goal.overflow_add-at
overflow_add-at c = omega (arith, room (goal.at.overflow_add-at c).In-loop-left)

pub loop-left-preserved : goal.loop-left-preserved
loop-left-preserved c =
    let a = c.args in
    let s = a.body.now in
    let loop = c.loop-left in
    let turn = c.loop-left-test.true in (
      omega (arith, mul_part 10 loop.left a.step turn),
      λ shape e. part_good shape 10 loop.left turn s loop.at (ap (λ w. loop.at + 10 * w) e)
          (ap (good_records shape 10) (sym (part_tail s loop.at)) ∙ was_true (c.good_part.ensures shape e) c.if-not-good_part.false)
          ∙ loop.invariant.1 shape e,
    )

pub good_part-requires-2 : goal.good_part-requires-2
good_part-requires-2 c =
    let a = c.args in
    (omega arith, rw (part_tail a.body.now c.loop-left.at, length-drop) (omega arith))

pub returns : goal.returns
returns c =
    let s = c.args.body.now in
    let loop = c.loop-left in
    λ shape e. c.good_part-2.ensures shape e ∙ ap (good_records shape loop.left) (part_tail s loop.at) ∙ loop.invariant.1 shape e

pub slice_bounds-good_part-count : goal.slice_bounds-good_part-count
slice_bounds-good_part-count c = omega arith

pub slice_bounds-good_part-start : goal.slice_bounds-good_part-start
slice_bounds-good_part-start c = omega arith

pub slice_bounds-good_part-count-2 : goal.slice_bounds-good_part-count-2
slice_bounds-good_part-count-2 c = omega arith

pub slice_bounds-good_part-start-2 : goal.slice_bounds-good_part-start-2
slice_bounds-good_part-start-2 c = omega arith
