use mathlib.Core.Path.{sym}
use Rattle.answers.proofs.Conditions.{was_false, was_true}
use Rattle.shell.proofs.reading.Input.reported.Goals as goal

pub returns-then-not-has_failed : goal.returns-then-not-has_failed
returns-then-not-has_failed c = sym (was_false c.has_failed.ensures c.if-not-has_failed.true)

pub returns : goal.returns
returns c = sym (was_true c.has_failed.ensures c.if-not-has_failed.false)
