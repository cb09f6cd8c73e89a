use mathlib.Core.Path.{sym, ◌∙◌}
use Rattle.answers.proofs.Conditions.{was_true, was_false}
use Rattle.sources.proofs.Checking.{told_refused, told_held}
use Rattle.sources.proofs.RunFaults.{judged_refused, judged_own, judged_held}
use Rattle.sources.proofs.judging.judge.Goals as goal

pub returns-then-not-has_fields : goal.returns-then-not-has_fields
returns-then-not-has_fields c =
    let run = c.args.run in
    judged_own run (told_held run.table (sym c.in-Ok.is ∙ c.check.ensures)) (was_false c.has_fields.ensures c.if-not-has_fields.true)

pub returns-in-Err : goal.returns-in-Err
returns-in-Err c =
    let run = c.args.run in
    judged_refused run (told_refused run.table (sym c.in-Err.is ∙ c.check.ensures))

pub returns-else-not-has_fields : goal.returns-else-not-has_fields
returns-else-not-has_fields c =
    let run = c.args.run in
    judged_held run (told_held run.table (sym c.in-Ok.is ∙ c.check.ensures)) (was_true c.has_fields.ensures c.if-not-has_fields.false)
