use Rattle.std.proofs.Common.{◌+◌, ◌-◌, ◌≤◌, length, drop, refl, ◌∙◌, arith}
use Rattle.trace.proofs.Tallies.{mul_turn, records_turn, records_done}
use Rattle.trace.proofs.contents.good_part.Goals.{In-loop-left}
use Rattle.trace.proofs.contents.good_part.Goals as goal

room : (c : In-loop-left) → c.loop-left.at + c.args.step ≤ length c.args.body.now
room c = omega (arith, mul_turn c.loop-left.left c.args.step c.loop-left-test.true)

pub loop-left-init : goal.loop-left-init
loop-left-init c = (omega arith, λ shape e. refl)

pub overflow_add-at : goal.overflow_add-at
overflow_add-at c = omega (arith, room (goal.at.overflow_add-at c).In-loop-left)

pub overflow_add-at-in-loop-left : goal.overflow_add-at-in-loop-left
overflow_add-at-in-loop-left c = omega (arith, room (goal.at.overflow_add-at-in-loop-left c).In-loop-left)

pub bounds-body-at : goal.bounds-body-at
bounds-body-at c = omega (arith, room (goal.at.bounds-body-at c).In-loop-left)

pub overflow_add-at-in-loop-left-2 : goal.overflow_add-at-in-loop-left-2
overflow_add-at-in-loop-left-2 c = omega (arith, room (goal.at.overflow_add-at-in-loop-left-2 c).In-loop-left)

pub bounds-body-at-in-loop-left : goal.bounds-body-at-in-loop-left
bounds-body-at-in-loop-left c = omega (arith, room (goal.at.bounds-body-at-in-loop-left c).In-loop-left)

pub overflow_add-at-in-loop-left-3 : goal.overflow_add-at-in-loop-left-3
overflow_add-at-in-loop-left-3 c = omega (arith, room (goal.at.overflow_add-at-in-loop-left-3 c).In-loop-left)

pub loop-left-preserved : goal.loop-left-preserved
loop-left-preserved c =
    let loop = c.loop-left in
    let a = c.args in
    let mark_at = loop.at + (a.step - 2) in
    let turn = c.loop-left-test.true in
    let mark = c.shared_slice_known-in-loop-left-2-1.given mark_at in (
      omega (arith, mul_turn loop.left a.step turn),
      λ shape e. records_turn shape loop.left loop.at loop.seen c.join16-seen.result a.body.now {next = loop.at + a.step} {zero-at = mark_at + 1} {mark_at = mark_at} turn (omega arith) (omega arith) (omega arith) (omega (arith, mark)) c.join16-seen.ensures
          ∙ loop.invariant.1 shape e,
    )

pub returns : goal.returns
returns c =
    let loop = c.loop-left in
    let a = c.args in
    λ shape e. records_done shape loop.left loop.seen a.n (drop loop.at a.body.now) a.body.now c.loop-left-test.false (loop.invariant.1 shape e)
