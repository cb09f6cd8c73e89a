use mathlib.Core.Path.{sym, ap, subst, ◌∙◌}
use native.Mathlib.Omega.{arith}
use lib.ListN.{length}
use Prim.Native.Nat.{ℕ, ◌+◌, ◌≤◌, ◌<◌}
use Rattle.source.proofs.Packets.{packet, room_left}
use Rattle.engine.specs.declared.lean.Lean.{Lean}
use Rattle.engine.specs.Lean.{taken}
use Rattle.engine.proofs.Turns.{Taking, taking_start, taking_mark, taking_room, taking_next, taking_end}
use Rattle.engine.proofs.runs.along.Goals.{In-loop-at}
use Rattle.engine.proofs.runs.along.Goals as goal

room : (c : In-loop-at) → c.loop-at.at + c.args.width ≤ length c.args.records.now
room c =
    let a = c.args in
    room_left a.width a.records.now c.loop-at.at c.loop-at.invariant.1.left c.loop-at-test.true

pub loop-at-init : goal.loop-at-init
loop-at-init c =
    (c.requires.0.wide, taking_start c.args.width c.args.records.now c.args.begun c.requires.0 c.requires.1 c.requires.2)

pub overflow_sub-place : goal.overflow_sub-place
overflow_sub-place c = omega (arith, c.loop-at.invariant.0)

pub overflow_add-place : goal.overflow_add-place
overflow_add-place c = omega (arith, room (goal.at.overflow_add-place c).In-loop-at, c.loop-at.invariant.0)

pub bounds-records-place : goal.bounds-records-place
bounds-records-place c = omega (arith, room (goal.at.bounds-records-place c).In-loop-at, c.loop-at.invariant.0)

pub number-requires : goal.number-requires
number-requires c = (c.loop-at.invariant.0, room (goal.at.number-requires c).In-loop-at)

pub take-t-requires : goal.take-t-requires
take-t-requires c =
    let a = c.args in
    let l = c.loop-at in
    let test = c.loop-at-test.true in
    (taking_room a.width a.records.now a.begun l.invariant.1 test, c.number.ensures.1, taking_mark a.width a.records.now a.begun l.invariant.1 test)

pub overflow_add-at : goal.overflow_add-at
overflow_add-at c = omega (arith, room (goal.at.overflow_add-at c).In-loop-at)

pub loop-at-smaller : goal.loop-at-smaller
loop-at-smaller c = omega (arith, c.loop-at-test.true, c.loop-at.invariant.0)

pub loop-at-preserved : goal.loop-at-preserved
loop-at-preserved c =
    let a = c.args in
    let l = c.loop-at in
    let s = a.records.now in
    let e = c.number.ensures in
    let turn = c.take-t.ensures ∙ ap (λ (n : ℕ). taken l.t n (packet a.width s l.at).mark) e.0 in (
      l.invariant.0,
      subst (λ (t : Lean). Taking a.width s a.begun (l.at + a.width) t) (sym turn)
          (taking_next a.width s a.begun l.invariant.1 c.loop-at-test.true (subst (λ (n : ℕ). n < 65536) e.0 e.1)),
    )

pub returns : goal.returns
returns c =
    let a = c.args in
    let l = c.loop-at in
    taking_end a.width a.records.now a.begun l.invariant.1 (omega (arith, l.invariant.0)) c.loop-at-test.false
