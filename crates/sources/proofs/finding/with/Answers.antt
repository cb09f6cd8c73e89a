use mathlib.Core.Path.{sym, ◌∙◌}
use borrow.Author.Tests.{not-true, not-false}
use Rattle.answers.proofs.Conditions.{was_false, was_true}
use Rattle.sources.proofs.Sights.{next_held, next_other, next_closed}
use Rattle.sources.proofs.finding.with.Goals as goal

pub returns-then-not-seen : goal.returns-then-not-seen
returns-then-not-seen c =
    let a = c.args in
    c.with_other.ensures ∙ sym (next_closed a.ssrc a.seen a.i a.p (not-true _ c.if-not-seen.true))

pub returns-then-not-is_held : goal.returns-then-not-is_held
returns-then-not-is_held c =
    let a = c.args in
    c.with_other-then-not-is_held.ensures
    ∙ sym (next_other a.ssrc a.seen a.i a.p (not-false _ c.if-not-seen.false) (was_false c.is_held.ensures c.if-not-is_held.true))

pub returns : goal.returns
returns c =
    let a = c.args in
    c.with_held.ensures
    ∙ sym (next_held a.ssrc a.seen a.i a.p (not-false _ c.if-not-seen.false) (was_true c.is_held.ensures c.if-not-is_held.false))
