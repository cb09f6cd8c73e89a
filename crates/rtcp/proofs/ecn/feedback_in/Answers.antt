use Prim.Native.Nat.{◌+◌, ◌≤◌}
use borrow.Author.Tests.{eq-eqb, ne_eqb}
use native.Mathlib.Omega.{arith}
use lib.ListN.{length}
use Rattle.answers.proofs.Conditions.{was_true, was_false}
use Rattle.rtcp.specs.EcnReports.{feedback, feedback_in}
use Rattle.rtcp.proofs.Whole.{feedback_within}
use Rattle.rtcp.proofs.ecn.feedback_in.Goals.{Else-not-is_feedback, then-not-is_feedback-via-then-not-is_feedback, then-not-is_feedback-via-else-not-is_feedback+then-number32-media}
use Rattle.rtcp.proofs.ecn.feedback_in.Goals as goal

-- feedback lies whole in the compound
within : (c : Else-not-is_feedback) → c.args.at + 32 ≤ length c.args.b.now
within c =
    let a = c.args in
    let s = c.requires in
    omega (arith, s.whole, feedback_within a.header a.b.now a.at s (was_true c.is_feedback.ensures c.if-not-is_feedback.false))

pub number32-requires : goal.number32-requires
number32-requires c = omega (arith, within ((goal.at.number32-requires c).Else-not-is_feedback))

-- no feedback, or about another source
pub returns-then-not-is_feedback : goal.returns-then-not-is_feedback
unfolding feedback_in
returns-then-not-is_feedback c =
    elim c.then-not-is_feedback.branch [
      | then-not-is_feedback-via-then-not-is_feedback w ↦ rw (was_false c.is_feedback.ensures w.if-not-is_feedback.true)
      | then-not-is_feedback-via-else-not-is_feedback+then-number32-media w ↦
          rw (was_true c.is_feedback.ensures w.if-not-is_feedback.false, ← w.number32.ensures, ne_eqb _ _ w.if-number32-media.true)
    ]

pub number32-requires-2 : goal.number32-requires-2
number32-requires-2 c = omega (arith, within (goal.at.number32-requires-2 c).Else-not-is_feedback)

pub number32-requires-3 : goal.number32-requires-3
number32-requires-3 c = omega (arith, within (goal.at.number32-requires-3 c).Else-not-is_feedback)

pub counts_at-requires : goal.counts_at-requires
counts_at-requires c = omega (arith, within (goal.at.counts_at-requires c).Else-not-is_feedback)

pub returns : goal.returns
unfolding feedback_in feedback
returns c = rw (was_true c.is_feedback.ensures c.if-not-is_feedback.false, ← c.number32.ensures, eq-eqb _ _ c.if-number32-media.false) (cc)
