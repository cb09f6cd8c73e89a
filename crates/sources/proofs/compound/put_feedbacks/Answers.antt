use borrow.Author.Rules.{rules}
use mathlib.Core.Path.{refl, ap, ◌∙◌}
use native.Mathlib.Omega.{arith}
use Prim.Native.Nat.{◌+◌, ◌*◌, ◌≤◌}
use lib.ListN.{length}
use lib.Seq.{length-sets}
use Rattle.sources.proofs.Turns.{length-mapped}
use Rattle.sources.proofs.Compounding.{feedback_stored, sound_first, sound_rest, feedbacks_turn, feedbacks_done}
use Rattle.sources.proofs.compound.put_feedbacks.Goals as goal

pub loop-i-init : goal.loop-i-init
loop-i-init c = (refl, omega arith, search (rules, length-mapped), c.requires.2, refl)

pub overflow_mul-at : goal.overflow_mul-at
overflow_mul-at c = omega arith

pub overflow_add-at : goal.overflow_add-at
overflow_add-at c = omega arith

pub slice_bounds-write_feedback-count : goal.slice_bounds-write_feedback-count
slice_bounds-write_feedback-count c = omega arith

pub overflow_add-i : goal.overflow_add-i
overflow_add-i c = omega arith

pub loop-i-smaller : goal.loop-i-smaller
loop-i-smaller c = omega arith

pub loop-i-preserved : goal.loop-i-preserved
loop-i-preserved c =
    let l = c.loop-i in
    let a = c.args in
    let test = c.loop-i-test.true in
    let few = l.invariant.2 in
    let k : a.n ≤ length a.t.places = omega arith in
    let good = sound_first a.t.places a.n l.i a.sender test k l.invariant.3 in
    let e = feedback_stored _ a.sender _ (8 + 32 * l.i) l.out good (omega arith) c.write_feedback.ensures in (
      ap length e ∙ simp length-sets l.invariant.0,
      omega arith,
      l.invariant.2,
      sound_rest a.t.places a.n l.i a.sender test k l.invariant.3,
      feedbacks_turn a.t.places a.n l.i a.sender test k l.out e ∙ l.invariant.4,
    )

pub shape_of-out : goal.shape_of-out
shape_of-out c = c.loop-i.invariant.0

pub returns : goal.returns
returns c =
    let l = c.loop-i in
    let a = c.args in
    feedbacks_done a.t.places a.n l.i a.sender l.out c.loop-i-test.false ∙ l.invariant.4
