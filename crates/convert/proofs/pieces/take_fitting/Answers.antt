use Rattle.std.specs.Prelude.{Err}
use mathlib.Core.Path.{refl, subst}
use Rattle.answers.specs.declared.Unwritten.{Unwritten}
use native.Mathlib.Omega.{arith}
use Prim.Native.Nat.{◌+◌, ◌-◌}
use lib.ListN.{take, drop}
use Rattle.numbers.proofs.BigEndian.{Octets}
use Rattle.walk.specs.Puts.{PutBy}
use Rattle.convert.specs.Runs.{row_in, next_of}
use Rattle.convert.proofs.Fitted.{Loop, loop_first, loop_within, loop_inside, loop_size, loop_last, loop_taken, loop_pauses, loop_refused}
use Rattle.convert.proofs.pieces.take_fitting.Goals.{After-run-1}
use Rattle.convert.proofs.pieces.take_fitting.Goals as goal

pub loop-at-init : goal.loop-at-init
loop-at-init c = loop_first c.requires

pub overflow_sub-piece : goal.overflow_sub-piece
overflow_sub-piece c = loop_within c.loop-at.invariant

pub overflow_add-end : goal.overflow_add-end
overflow_add-end c = omega (arith, loop_within c.loop-at.invariant, c.loop-at-test.true, c.well_formed)

pub slice_bounds-put_row-count : goal.slice_bounds-put_row-count
slice_bounds-put_row-count c = omega arith

pub slice_bounds-put_row-end : goal.slice_bounds-put_row-end
slice_bounds-put_row-end c = omega (arith, loop_within c.loop-at.invariant, c.loop-at-test.true)

pub put_row-step-requires : goal.put_row-step-requires
put_row-step-requires c = let l = c.loop-at in (l.invariant.sound, omega (arith, loop_inside l.invariant, loop_size l.invariant))

-- the invariant behind a block that is taken
turn : (c : After-run-1)
    → let l = c.loop-at in let p = c.put_row-step in
    Loop c.args.start c.args.zeroth.now c.args.piece.now c.args.out.now p.result.run (l.at + 512) p.new.out (l.used + c.in-Ok.n)
turn c =
    let l = c.loop-at in
    let p = c.put_row-step in
    let octets : Octets c.args.piece.now = λ i. omega (arith, c.shared_slice_known-2-1.given i) in
    let next = next_of l.run (take (l.at + 512 - l.at) (drop l.at c.args.piece.now)) in
    loop_taken l.invariant c.loop-at-test.true refl octets
    (subst (PutBy next (row_in c.args.zeroth.now next) l.out l.used p.result.run p.new.out) c.in-Ok.is p.ensures)

pub overflow_add-used : goal.overflow_add-used
overflow_add-used c = let t = turn (goal.at.overflow_add-used c).After-run-1 in omega (arith, loop_inside t, c.well_formed)

pub shape_of-out-in-Err-Room : goal.shape_of-out-in-Err-Room
shape_of-out-in-Err-Room c = omega (arith, c.put_row-step.auto.out, loop_size c.loop-at.invariant)

pub returns-in-Err-Room : goal.returns-in-Err-Room
returns-in-Err-Room c =
    let l = c.loop-at in
    let p = c.put_row-step in
    let next = next_of l.run (take (l.at + 512 - l.at) (drop l.at c.args.piece.now)) in
    let why = rw c.in-Err-Room.is at c.in-Err-Room.field-0-is in
    loop_pauses l.invariant c.loop-at-test.true refl
    (subst (λ (w : Unwritten). PutBy next (row_in c.args.zeroth.now next) l.out l.used p.result.run p.new.out (Err w)) why (subst (PutBy next (row_in c.args.zeroth.now next) l.out l.used p.result.run p.new.out) c.in-Err-Room.is p.ensures))

pub shape_of-out-in-Err-Refused : goal.shape_of-out-in-Err-Refused
shape_of-out-in-Err-Refused c = omega (arith, c.put_row-step.auto.out, loop_size c.loop-at.invariant)

pub returns-in-Err-Refused : goal.returns-in-Err-Refused
returns-in-Err-Refused c =
    let l = c.loop-at in
    let p = c.put_row-step in
    let next = next_of l.run (take (l.at + 512 - l.at) (drop l.at c.args.piece.now)) in
    let why = rw c.in-Err-Refused.is at c.in-Err-Refused.field-0-is in
    loop_refused l.invariant c.loop-at-test.true refl
    (subst (λ (w : Unwritten). PutBy next (row_in c.args.zeroth.now next) l.out l.used p.result.run p.new.out (Err w)) why (subst (PutBy next (row_in c.args.zeroth.now next) l.out l.used p.result.run p.new.out) c.in-Err-Refused.is p.ensures))

pub loop-at-smaller : goal.loop-at-smaller
loop-at-smaller c = omega (arith, loop_within c.loop-at.invariant, c.loop-at-test.true)

pub loop-at-preserved : goal.loop-at-preserved
loop-at-preserved c = turn (goal.at.loop-at-preserved c).After-run-1

pub shape_of-out : goal.shape_of-out
shape_of-out c = loop_size c.loop-at.invariant

pub returns : goal.returns
returns c = loop_last c.loop-at.invariant (omega (arith, c.loop-at-test.false))
