use mathlib.Core.Path.{refl, subst}
use native.Mathlib.Omega.{arith}
use Prim.Native.Nat.{◌+◌, ◌-◌}
use lib.ListN.{take, drop}
use Rattle.numbers.proofs.BigEndian.{Octets}
use Rattle.convert.specs.Runs.{row_in, next_of}
use Rattle.convert.specs.Passes.{MovedBy}
use Rattle.convert.proofs.Passing.{Passage, passage_first, passage_last, passage_taken, passage_refused}
use Rattle.convert.proofs.feed_passes.take_all.Goals.{In-Ok}
use Rattle.convert.proofs.feed_passes.take_all.Goals as goal

pub loop-at-init : goal.loop-at-init
loop-at-init c = passage_first c.requires.sound (omega (arith, c.well_formed))

pub overflow_sub-piece : goal.overflow_sub-piece
overflow_sub-piece c = c.loop-at.invariant.within

pub overflow_add-end : goal.overflow_add-end
overflow_add-end c = omega (arith, c.loop-at.invariant.within, c.loop-at-test.true, c.well_formed)

pub slice_bounds-forward_at-count : goal.slice_bounds-forward_at-count
slice_bounds-forward_at-count c = omega arith

pub slice_bounds-forward_at-end : goal.slice_bounds-forward_at-end
slice_bounds-forward_at-end c = omega (arith, c.loop-at.invariant.within, c.loop-at-test.true)

pub forward_at-requires : goal.forward_at-requires
forward_at-requires c = c.loop-at.invariant.sound

-- the invariant after a block that is taken
turn : (c : In-Ok)
    → let a = c.args in
    let l = c.loop-at in
    Passage a.start a.zeroth.now a.piece.now a.out.now a.from c.in-Ok.next (l.at + 512) c.forward_at.new.out (l.used + c.in-Ok.length)
turn c =
    let a = c.args in
    let l = c.loop-at in
    let f = c.forward_at in
    let octets : Octets a.piece.now = λ i. omega (arith, c.shared_slice_known-2-1.given i) in
    let next = next_of l.run (take (l.at + 512 - l.at) (drop l.at a.piece.now)) in
    passage_taken l.invariant c.loop-at-test.true refl octets f.auto.out
    (subst (MovedBy next (row_in a.zeroth.now next) l.out l.used f.new.out) c.in-Ok.is f.ensures)

pub overflow_add-used : goal.overflow_add-used
overflow_add-used c =
    let t = turn (goal.at.overflow_add-used c).In-Ok in
    omega (arith, t.few, t.at_block, t.within, c.requires.short, c.requires.small)

pub shape_of-out-in-Err : goal.shape_of-out-in-Err
shape_of-out-in-Err c = omega (arith, c.forward_at.auto.out, c.loop-at.invariant.size)

pub returns-in-Err : goal.returns-in-Err
returns-in-Err c =
    let a = c.args in
    let l = c.loop-at in
    let f = c.forward_at in
    let next = next_of l.run (take (l.at + 512 - l.at) (drop l.at a.piece.now)) in
    record {
      sound = l.invariant.sound;
      passed = passage_refused l.invariant c.loop-at-test.true refl
          (subst (MovedBy next (row_in a.zeroth.now next) l.out l.used f.new.out) c.in-Err.is f.ensures);
    }

pub loop-at-smaller : goal.loop-at-smaller
loop-at-smaller c = omega (arith, c.loop-at.invariant.within, c.loop-at-test.true)

pub loop-at-preserved : goal.loop-at-preserved
loop-at-preserved c = turn (goal.at.loop-at-preserved c).In-Ok

pub shape_of-out : goal.shape_of-out
shape_of-out c = c.loop-at.invariant.size

pub returns : goal.returns
returns c = record { sound = c.loop-at.invariant.sound; passed = passage_last c.loop-at.invariant (omega (arith, c.loop-at-test.false)) }
