use mathlib.Core.Path.{refl, ◌∙◌}
use native.Mathlib.Omega.{arith}
use Rattle.numbers.proofs.BigEndian.{Octets}
use Rattle.forms.proofs.Fitted.{loop_first, loop_sound, loop_within, loop_inside, loop_size, loop_last, loop_taken, loop_pauses, loop_refused}
use Rattle.forms.proofs.pieces.take_fitting.Goals as goal

pub loop-at-init : goal.loop-at-init
loop-at-init c =
    let octets : Octets c.args.part.now = λ i. omega (arith, c.slice_known-1.given i) in
    loop_first octets c.requires

pub overflow_sub-piece : goal.overflow_sub-piece
overflow_sub-piece c = omega (arith, loop_within c.loop-at.invariant)

pub overflow_add-end : goal.overflow_add-end
overflow_add-end c = omega (arith, loop_within c.loop-at.invariant)

pub slice_bounds-put_blocks-count : goal.slice_bounds-put_blocks-count
slice_bounds-put_blocks-count c = omega (arith, loop_within c.loop-at.invariant)

pub slice_bounds-put_blocks-start : goal.slice_bounds-put_blocks-start
slice_bounds-put_blocks-start c = omega (arith, loop_within c.loop-at.invariant)

pub slice_bounds-put_blocks-end : goal.slice_bounds-put_blocks-end
slice_bounds-put_blocks-end c = omega (arith, loop_within c.loop-at.invariant, c.loop-at-test.true)

pub put_blocks-step-requires : goal.put_blocks-step-requires
put_blocks-step-requires c = let inv = c.loop-at.invariant in (loop_sound inv, omega (arith, loop_inside inv, loop_size inv))

-- the loop behind a block that is taken
pub loop-at-preserved : goal.loop-at-preserved
loop-at-preserved c =
    let loop = c.loop-at in
    let octets : Octets c.args.piece.now = λ i. omega (arith, c.shared_slice_known-1.given i) in
    loop_taken loop.invariant c.loop-at-test.true refl c.put_blocks-step.ensures octets c.in-Ok.is c.put_blocks-step.auto.part

pub overflow_add-used : goal.overflow_add-used
overflow_add-used c =
    let loop = c.loop-at in
    let octets : Octets c.args.piece.now = λ i. omega (arith, c.shared_slice_known-1.given i) in
    let again = loop_taken loop.invariant c.loop-at-test.true refl c.put_blocks-step.ensures octets c.in-Ok.is c.put_blocks-step.auto.part in
    omega (arith, loop_inside again)

pub shape_of-part-in-Err-Room : goal.shape_of-part-in-Err-Room
shape_of-part-in-Err-Room c = c.put_blocks-step.auto.part ∙ c.loop-at.invariant.long

pub shape_of-out-in-Err-Room : goal.shape_of-out-in-Err-Room
shape_of-out-in-Err-Room c = c.put_blocks-step.auto.out ∙ loop_size c.loop-at.invariant

pub returns-in-Err-Room : goal.returns-in-Err-Room
returns-in-Err-Room c =
    let loop = c.loop-at in
    let octets : Octets c.args.piece.now = λ i. omega (arith, c.shared_slice_known-1.given i) in
    loop_pauses loop.invariant c.loop-at-test.true refl c.put_blocks-step.ensures octets c.in-Err-Room.is (rw c.in-Err-Room.is at c.in-Err-Room.field-0-is)

pub shape_of-part-in-Err-Refused : goal.shape_of-part-in-Err-Refused
shape_of-part-in-Err-Refused c = c.put_blocks-step.auto.part ∙ c.loop-at.invariant.long

pub shape_of-out-in-Err-Refused : goal.shape_of-out-in-Err-Refused
shape_of-out-in-Err-Refused c = c.put_blocks-step.auto.out ∙ loop_size c.loop-at.invariant

pub returns-in-Err-Refused : goal.returns-in-Err-Refused
returns-in-Err-Refused c = loop_refused c.loop-at.invariant c.loop-at-test.true refl c.put_blocks-step.ensures c.in-Err-Refused.is (rw c.in-Err-Refused.is at c.in-Err-Refused.field-0-is)

pub loop-at-smaller : goal.loop-at-smaller
loop-at-smaller c = omega (arith, loop_within c.loop-at.invariant, c.loop-at-test.true)

pub shape_of-part : goal.shape_of-part
shape_of-part c = c.loop-at.invariant.long

pub shape_of-out : goal.shape_of-out
shape_of-out c = loop_size c.loop-at.invariant

pub returns : goal.returns
returns c = loop_last c.loop-at.invariant (omega (arith, c.loop-at-test.false))
