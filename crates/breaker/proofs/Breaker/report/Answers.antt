use Rattle.std.specs.Prelude.{None}
use Rattle.breaker.specs.Numbered.{step_as}
use mathlib.Core.Path.{ap, ◌∙◌, subst}
use mathlib.Core.Bool.{not}
use borrow.Author.Tests.{lt-ltb, le-ltb, le-leb, lt-leb}
use Rattle.answers.proofs.Conditions.{cond_ends, cond_goes, was_false, was_true}
use Rattle.breaker.specs.Calls.{report_of}
use Rattle.breaker.specs.Private.{Opens}
use Rattle.breaker.proofs.Chains.{open_goes}
use mathlib.Core.Path.{ap}
use Rattle.breaker.proofs.Breaker.report.Goals.{In_default, then-r-self-via-then-r-self, then-r-self-via-else-r-self+then-r-self-2}
use Rattle.breaker.proofs.Breaker.report.Goals as goal

-- the record is sound and runs
opens : (c : In_default) → Opens c.args.self None
opens c = subst (Opens _) c.in_default.is c.opening.ensures

pub returns-in-Some-clause-value : goal.returns-in-Some-clause-value
unfolding report_of
returns-in-Some-clause-value c = c.answered.ensures ∙ subst (Opens _) c.in-Some.is c.opening.ensures _

pub returns-in-Some-clause-numbered : goal.returns-in-Some-clause-numbered
returns-in-Some-clause-numbered c = ap step_as (returns-in-Some-clause-value c)

pub returns-then-not-report_ok-clause-value : goal.returns-then-not-report_ok-clause-value
unfolding report_of
returns-then-not-report_ok-clause-value c =
    open_goes _ _ (opens (goal.at.returns-then-not-report_ok-clause-value c).In_default)
    (cond_ends _ _ _ _ (ap not (was_false c.report_ok.ensures c.if-not-report_ok.true)) c.answered-then-not-report_ok.ensures)

pub returns-then-not-report_ok-clause-numbered : goal.returns-then-not-report_ok-clause-numbered
returns-then-not-report_ok-clause-numbered c = ap step_as (returns-then-not-report_ok-clause-value c)

-- not later than the last report or start, or earlier than a heard packet
pub returns-then-r-self-clause-value : goal.returns-then-r-self-clause-value
unfolding report_of
returns-then-r-self-clause-value c =
    open_goes _ _ (opens (goal.at.returns-then-r-self-clause-value c).In_default)
    (cond_goes _ _ _ _ (ap not (was_true c.report_ok.ensures c.if-not-report_ok.false))
    (elim c.then-r-self.branch [
      | then-r-self-via-then-r-self w ↦ cond_ends _ _ _ _ (le-leb _ _ w.if-r-self.true) c.answered-then-r-self.ensures
      | then-r-self-via-else-r-self+then-r-self-2 w ↦
          cond_goes _ _ _ _ (lt-leb _ _ w.if-r-self.false)
          (cond_ends _ _ _ _ (lt-ltb _ _ w.if-r-self-2.true) c.answered-then-r-self.ensures)
    ]))

pub returns-then-r-self-clause-numbered : goal.returns-then-r-self-clause-numbered
returns-then-r-self-clause-numbered c = ap step_as (returns-then-r-self-clause-value c)

pub ruled-requires : goal.ruled-requires
ruled-requires c =
    record {
      is_sound = (opens (goal.at.ruled-requires c).In_default).0;
      running = (opens (goal.at.ruled-requires c).In_default).1;
      in_limits = was_true c.report_ok.ensures c.if-not-report_ok.false;
      later = c.if-r-self.false;
      not_before = c.if-r-self-2.false;
    }

pub returns-clause-value : goal.returns-clause-value
unfolding report_of
returns-clause-value c =
    open_goes _ _ (opens (goal.at.returns-clause-value c).In_default)
    (cond_goes _ _ _ _ (ap not (was_true c.report_ok.ensures c.if-not-report_ok.false))
    (cond_goes _ _ _ _ (lt-leb _ _ c.if-r-self.false)
    (cond_goes _ _ _ _ (le-ltb _ _ c.if-r-self-2.false)
    c.ruled.ensures)))

pub returns-clause-numbered : goal.returns-clause-numbered
returns-clause-numbered c = ap step_as (returns-clause-value c)
