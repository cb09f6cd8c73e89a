use borrow.Author.Tests.{eq-eqb, ne_eqb}
use Rattle.answers.proofs.Conditions.{was_false, was_true}
use Rattle.shell.specs.Fills.{unread_of}
use Rattle.shell.proofs.reading.Input.unread.Goals as goal

pub returns-then-not-has_failed : goal.returns-then-not-has_failed
unfolding unread_of
returns-then-not-has_failed c = rw (was_false c.has_failed.ensures c.if-not-has_failed.true)

pub returns-then-self-ne0 : goal.returns-then-self-ne0
unfolding unread_of
returns-then-self-ne0 c = rw (was_true c.has_failed.ensures c.if-not-has_failed.false, ne_eqb _ 0 c.if-self-ne0.true)

pub returns : goal.returns
unfolding unread_of
returns c = rw (was_true c.has_failed.ensures c.if-not-has_failed.false, eq-eqb _ 0 c.if-self-ne0.false)
