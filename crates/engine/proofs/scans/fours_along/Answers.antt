use native.Mathlib.Omega.{arith}
use lib.ListN.{length}
use Prim.Native.Nat.{◌+◌, ◌≤◌, ◌<◌}
use Rattle.source.proofs.Packets.{room_left}
use Rattle.engine.proofs.Additions.{fours_start, fours_room, fours_next, fours_end}
use Rattle.engine.proofs.scans.fours_along.Goals.{In-loop-at}
use Rattle.engine.proofs.scans.fours_along.Goals as goal

inside : (c : In-loop-at) → c.loop-at.at < length c.args.records.now
inside c = omega (arith, c.loop-at-test.true, c.loop-at.invariant.1)

room : (c : In-loop-at) → c.loop-at.at + c.args.width ≤ length c.args.records.now
room c =
    let a = c.args in
    room_left a.width a.records.now c.loop-at.at c.loop-at.invariant.2.left (inside c)

pub loop-at-init : goal.loop-at-init
loop-at-init c =
    (c.requires.0.wide, c.requires.1, fours_start c.args.width c.args.records.now 0 c.requires.0)

pub ending-word-requires : goal.ending-word-requires
ending-word-requires c = (c.loop-at.invariant.0, room (goal.at.ending-word-requires c).In-loop-at)

pub overflow_add-fours : goal.overflow_add-fours
overflow_add-fours c =
    omega (arith, fours_room c.args.width c.args.records.now 0 c.loop-at.invariant.2 (inside (goal.at.overflow_add-fours c).In-loop-at))

pub overflow_add-at : goal.overflow_add-at
overflow_add-at c = omega (arith, room (goal.at.overflow_add-at c).In-loop-at)

pub loop-at-smaller : goal.loop-at-smaller
loop-at-smaller c = omega (arith, c.loop-at-test.true, c.loop-at.invariant.0)

pub loop-at-preserved : goal.loop-at-preserved
loop-at-preserved c =
    let a = c.args in
    let l = c.loop-at in (
      l.invariant.0,
      l.invariant.1,
      fours_next a.width a.records.now 0 l.invariant.2 (inside (goal.at.loop-at-preserved c).In-loop-at) c.ending-word.result _
          c.ending-word.ensures,
    )

pub returns : goal.returns
returns c =
    let a = c.args in
    let l = c.loop-at in
    fours_end a.width a.records.now 0 l.invariant.2 (omega (arith, l.invariant.0)) (omega (arith, c.loop-at-test.false, l.invariant.1))
