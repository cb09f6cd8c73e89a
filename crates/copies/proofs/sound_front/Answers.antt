use mathlib.Core.Path.{refl, sym, ◌∙◌}
use native.Mathlib.Omega.{arith}
use Rattle.copies.proofs.Fronts.{loop_first, loop_last, loop_refused, loop_taken}
use Rattle.copies.proofs.sound_front.Goals as goal

pub loop-at-init : goal.loop-at-init
loop-at-init c = let a = c.args in loop_first a.form a.ssrc a.piece.now

pub overflow_sub-piece : goal.overflow_sub-piece
overflow_sub-piece c = c.loop-at.invariant.within

pub overflow_add-end : goal.overflow_add-end
overflow_add-end c = omega (arith, c.loop-at.invariant.within, c.loop-at-test.true, c.well_formed)

pub slice_bounds-read_own-end : goal.slice_bounds-read_own-end
slice_bounds-read_own-end c = omega (arith, c.loop-at.invariant.within, c.loop-at-test.true)

pub returns-in-Err : goal.returns-in-Err
returns-in-Err c =
    loop_refused c.loop-at.invariant c.loop-at-test.true refl
    (sym c.read_own-read.ensures.value ∙ c.in-Err.is)

pub loop-at-smaller : goal.loop-at-smaller
loop-at-smaller c = omega (arith, c.loop-at.invariant.within, c.loop-at-test.true)

pub loop-at-preserved : goal.loop-at-preserved
loop-at-preserved c =
    loop_taken c.loop-at.invariant c.loop-at-test.true refl
    (sym c.read_own-read.ensures.value ∙ c.in_default.is)

pub returns : goal.returns
returns c = loop_last c.loop-at.invariant (omega (arith, c.loop-at-test.false))

pub slice_bounds-read_own-count : goal.slice_bounds-read_own-count
slice_bounds-read_own-count c = omega arith
