use mathlib.Core.Path.{ap}
use native.Mathlib.Omega.{arith}
use Prim.Native.Nat.{ℕ, ◌+◌, ◌-◌, ◌≤◌, ◌<◌}
use lib.ListN.{length}
use Rattle.source.proofs.Packets.{room_left}
use Rattle.engine.proofs.Looking.{looking_start, looking_next, looking_end}
use Rattle.engine.proofs.window.seen_along.Goals.{In-loop-at}
use Rattle.engine.proofs.window.seen_along.Goals as goal

inside : (c : In-loop-at) → c.loop-at.at < length c.args.records.now
inside c = omega (arith, c.loop-at-test.true, c.loop-at.invariant.1)

room : (c : In-loop-at) → c.loop-at.at + c.args.width ≤ length c.args.records.now
room c =
    let a = c.args in
    room_left a.width a.records.now c.loop-at.at c.loop-at.invariant.3.left (inside c)

pub loop-at-init : goal.loop-at-init
loop-at-init c = (c.requires.0.wide, c.requires.1, c.requires.2, looking_start c.args.width c.args.records.now c.args.top c.requires.0)

pub overflow_add-below : goal.overflow_add-below
overflow_add-below c = omega (arith, c.loop-at.invariant.2)

pub number-requires : goal.number-requires
number-requires c = (c.loop-at.invariant.0, room (goal.at.number-requires c).In-loop-at)

pub overflow_sub-below : goal.overflow_sub-below
overflow_sub-below c = omega (arith, c.number.ensures.1)

pub overflow_shl-bits : goal.overflow_shl-bits
overflow_shl-bits c = omega arith

pub overflow_add-at : goal.overflow_add-at
overflow_add-at c = omega (arith, room (goal.at.overflow_add-at c).In-loop-at)

pub loop-at-smaller : goal.loop-at-smaller
loop-at-smaller c = omega (arith, c.loop-at-test.true, c.loop-at.invariant.0)

pub loop-at-preserved : goal.loop-at-preserved
loop-at-preserved c =
    let a = c.args in
    let l = c.loop-at in (
      l.invariant.0,
      l.invariant.1,
      l.invariant.2,
      looking_next a.width a.records.now a.top l.invariant.3 (inside (goal.at.loop-at-preserved c).In-loop-at)
          (a.top + 65536 - c.number.result) (ap (λ (n : ℕ). a.top + 65536 - n) c.number.ensures.0),
    )

pub returns : goal.returns
returns c =
    let a = c.args in
    let l = c.loop-at in
    looking_end a.width a.records.now a.top l.invariant.3 (omega (arith, l.invariant.0)) (omega (arith, c.loop-at-test.false, l.invariant.1))
