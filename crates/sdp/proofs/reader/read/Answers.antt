use borrow.Author.Rules.{rules}
use mathlib.Core.Path.{refl, sym, subst}
use native.Mathlib.Omega.{arith}
use Rattle.answers.proofs.Conditions.{was_true, was_false}
use Rattle.sdp.specs.declared.steps.Part.TheVariants as part
use Rattle.sdp.specs.declared.reader.Tally.{Tally}
use Rattle.sdp.specs.Reading.{Reads}
use Rattle.sdp.proofs.Answering.{reads_unnamed}
use Rattle.sdp.proofs.Walking.{Walking, walking_starts, walking_ends, turn_none, turn_last, turn_more, small_more}
use Rattle.sdp.proofs.reader.read.Goals as goal

pub returns-then-line-gt255 : goal.returns-then-line-gt255
returns-then-line-gt255 c = Reads.long c.if-line-gt255.true

pub returns-then-not-is_attribute : goal.returns-then-not-is_attribute
returns-then-not-is_attribute c =
    reads_unnamed _ c.if-line-gt255.false (was_false c.is_attribute.ensures c.if-not-is_attribute.true)

pub loop-at-init : goal.loop-at-init
loop-at-init c =
    let s = c.args.line.now in
    subst (λ (t : Tally). Walking s part.Methods t 19) (sym c.no_tally-tally.ensures)
    (walking_starts s c.if-line-gt255.false (was_true c.is_attribute.ensures c.if-not-is_attribute.false))

pub step_at-step-requires : goal.step_at-step-requires
step_at-step-requires c = (c.loop-at.invariant.fits, c.loop-at.invariant.here)

pub noted-tally-requires : goal.noted-tally-requires
noted-tally-requires c =
    let w = c.loop-at.invariant in
    small_more _ _ 255 w.small (omega (arith, w.fits, w.here))

pub returns-in-Nothing : goal.returns-in-Nothing
returns-in-Nothing c =
    turn_none _ _ _ _ c.loop-at.invariant (search rules) c.step_at-step.ensures c.in-Nothing.is refl

pub returns-in-Last : goal.returns-in-Last
returns-in-Last c =
    turn_last _ _ _ _ c.loop-at.invariant (search rules) c.step_at-step.ensures c.in-Last.is
    c.noted-tally.ensures c.finished.ensures

pub loop-at-smaller : goal.loop-at-smaller
loop-at-smaller c =
    let m = turn_more _ _ _ _ c.loop-at.invariant (search rules) c.step_at-step.ensures c.in-More.is c.noted-tally.ensures in
    omega (arith, m.1)

pub loop-at-preserved : goal.loop-at-preserved
loop-at-preserved c =
    (turn_more _ _ _ _ c.loop-at.invariant (search rules) c.step_at-step.ensures c.in-More.is c.noted-tally.ensures).0

pub returns : goal.returns
returns c = walking_ends _ _ _ _ c.loop-at.invariant (search rules) refl
