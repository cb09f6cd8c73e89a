use native.Mathlib.Omega.{arith}
use Prim.Native.Nat.{◌+◌, ◌%◌, ◌≤◌, ◌<◌}
use mathlib.Core.Bool.{not}
use lib.Dec.{eqb}
use Rattle.source.proofs.Rows.{bit_le}
use lib.ListN.{length}
use Rattle.source.proofs.Packets.{room_left}
use Rattle.engine.proofs.Additions.{adding_start, adding_room, adding_next, adding_end}
use Rattle.engine.proofs.scans.added_up.Goals.{In-loop-at}
use Rattle.engine.proofs.scans.added_up.Goals as goal

inside : (c : In-loop-at) → c.loop-at.at < length c.args.records.now
inside c = omega (arith, c.loop-at-test.true, c.loop-at.invariant.1)

room : (c : In-loop-at) → c.loop-at.at + c.args.width ≤ length c.args.records.now
room c =
    let a = c.args in
    room_left a.width a.records.now c.loop-at.at c.loop-at.invariant.2.left (inside c)

few : (c : In-loop-at) → (c.loop-at.whole ≤ 7650) × (c.loop-at.halves ≤ 7650) × (c.loop-at.threes ≤ 7650) × (c.loop-at.fours ≤ 7650)
    × (c.loop-at.strays ≤ 30) × (c.loop-at.expected ≤ 73215)
few c =
    let a = c.args in
    adding_room a.width a.records.now a.turned c.loop-at.invariant.2 (inside c)

pub loop-at-init : goal.loop-at-init
loop-at-init c = (c.requires.0.wide, c.requires.1, adding_start c.args.width c.args.records.now c.args.turned c.requires.0 c.requires.2)

pub ending-word-requires : goal.ending-word-requires
ending-word-requires c = (c.loop-at.invariant.0, room (goal.at.ending-word-requires c).In-loop-at)

pub overflow_add-whole : goal.overflow_add-whole
overflow_add-whole c = omega (arith, (few (goal.at.overflow_add-whole c).In-loop-at).0)

pub overflow_add-halves : goal.overflow_add-halves
overflow_add-halves c = omega (arith, (few (goal.at.overflow_add-halves c).In-loop-at).1)

pub overflow_add-threes : goal.overflow_add-threes
overflow_add-threes c = omega arith

pub overflow_add-threes-in-loop-at : goal.overflow_add-threes-in-loop-at
overflow_add-threes-in-loop-at c = omega (arith, (few (goal.at.overflow_add-threes-in-loop-at c).In-loop-at).2)

pub overflow_add-fours : goal.overflow_add-fours
overflow_add-fours c = omega (arith, (few (goal.at.overflow_add-fours c).In-loop-at).3)

pub overflow_add-strays : goal.overflow_add-strays
overflow_add-strays c =
    omega (
      arith,
      (few (goal.at.overflow_add-strays c).In-loop-at).4,
      c.differs-strays.ensures,
      bit_le
          (not (eqb (c.ending-word.result % 65536) c.loop-at.expected)),
    )

pub overflow_add-expected : goal.overflow_add-expected
overflow_add-expected c = omega (arith, (few (goal.at.overflow_add-expected c).In-loop-at).5)

pub overflow_add-at : goal.overflow_add-at
overflow_add-at c = omega (arith, room (goal.at.overflow_add-at c).In-loop-at)

pub loop-at-smaller : goal.loop-at-smaller
loop-at-smaller c = omega (arith, c.loop-at-test.true, c.loop-at.invariant.0)

pub loop-at-preserved : goal.loop-at-preserved
loop-at-preserved c =
    let a = c.args in
    let l = c.loop-at in (
      l.invariant.0,
      l.invariant.1,
      adding_next a.width a.records.now a.turned l.invariant.2 (inside (goal.at.loop-at-preserved c).In-loop-at)
          c.ending-word.result c.differs-strays.result c.ending-word.ensures c.differs-strays.ensures,
    )

pub returns : goal.returns
returns c =
    let a = c.args in
    let l = c.loop-at in
    adding_end a.width a.records.now a.turned l.invariant.2 (omega (arith, l.invariant.0)) (omega (arith, c.loop-at-test.false, l.invariant.1))
