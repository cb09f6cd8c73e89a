use Rattle.std.specs.Prelude.{None}
use borrow.Author.Rules.{rules}
use mathlib.Core.Path.{◌≡◌, ap, sym, ◌∙◌, subst}
use mathlib.Core.Bool.{false, not}
use Prim.Native.Nat.{◌≤◌}
use borrow.Author.Tests.{lt-ltb, le-ltb, ltb-false, le-leb, lt-leb}
use lib.Dec.{ltb}
use Rattle.answers.proofs.Conditions.{cond_ends, cond_goes}
use Rattle.breaker.specs.declared.Answer.TheVariants.{Go}
use Rattle.breaker.specs.Answers.{answers}
use Rattle.breaker.specs.Calls.{early, timed}
use Rattle.breaker.specs.Private.{Opens}
use Rattle.breaker.proofs.Chains.{or_right, open_goes}
use Rattle.breaker.proofs.Breaker.timed.Goals.{Else-is_early, In_default}
use Rattle.breaker.proofs.Breaker.timed.Goals as goal

-- the record is sound and runs
opens : (c : In_default) → Opens c.args.self None
opens c = subst (Opens _) c.in_default.is c.opening.ensures

-- the time is not early
not-early : (c : Else-is_early) → early c.args.self c.args.time ≡ false
not-early c = sym c.is_early.ensures ∙ c.if-is_early.false

pub returns-in-Some : goal.returns-in-Some
unfolding timed
returns-in-Some c = c.answered.ensures ∙ subst (Opens _) c.in-Some.is c.opening.ensures _

pub returns-then-time-ge-TIME_LIMIT : goal.returns-then-time-ge-TIME_LIMIT
unfolding timed
returns-then-time-ge-TIME_LIMIT c =
    open_goes _ _ (opens (goal.at.returns-then-time-ge-TIME_LIMIT c).In_default)
    (cond_ends _ _ _ _ (ap not (le-ltb _ _ c.if-time-ge-TIME_LIMIT.true)) c.answered-then-time-ge-TIME_LIMIT.ensures)

pub returns-then-is_early : goal.returns-then-is_early
unfolding timed
returns-then-is_early c =
    open_goes _ _ (opens (goal.at.returns-then-is_early c).In_default)
    (cond_goes _ _ _ _ (ap not (lt-ltb _ _ c.if-time-ge-TIME_LIMIT.false))
    (cond_ends _ _ _ _ (sym c.is_early.ensures ∙ c.if-is_early.true) c.answered-then-is_early.ensures))

pub overflow_sub-time : goal.overflow_sub-time
overflow_sub-time c =
    let s = c.args in
    let held : s.self.heard ≤ s.time = ltb-false _ _ (or_right (ltb s.time s.self.last) _ (not-early (goal.at.overflow_sub-time c).Else-is_early)) in
    search rules

pub returns-then-self-time : goal.returns-then-self-time
unfolding timed
returns-then-self-time c =
    open_goes _ _ (opens (goal.at.returns-then-self-time c).In_default)
    (cond_goes _ _ _ _ (ap not (lt-ltb _ _ c.if-time-ge-TIME_LIMIT.false))
    (cond_goes _ _ _ _ (not-early (goal.at.returns-then-self-time c).Else-is_early)
    (cond_ends _ _ _ _ (le-leb _ _ c.if-self-time.true) c.stopped.ensures)))

pub returns : goal.returns
unfolding timed
returns c =
    open_goes _ _ (opens (goal.at.returns c).In_default)
    (cond_goes _ _ _ _ (ap not (lt-ltb _ _ c.if-time-ge-TIME_LIMIT.false))
    (cond_goes _ _ _ _ (not-early (goal.at.returns c).Else-is_early)
    (cond_goes _ _ _ _ (lt-leb _ _ c.if-self-time.false)
    (c.answered-2.ensures ∙ ap (answers Go) c.holding.ensures))))
