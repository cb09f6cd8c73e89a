use mathlib.Core.Path.{sym, ◌∙◌}
use Rattle.answers.proofs.Conditions.{was_true, was_false}
use Rattle.sources.proofs.RunFaults.{good_run, judged_none, with_refused, with_own, with_held}
use Rattle.sources.proofs.judging.judge_with.Goals as goal

pub is_own-requires : goal.is_own-requires
is_own-requires c =
    let a = c.args in
    (good_run a.run (judged_none a.run a.zeroth.now (sym c.in-Ok.is ∙ c.judge.ensures)).0).short

pub returns-then-not-is_own : goal.returns-then-not-is_own
returns-then-not-is_own c =
    let a = c.args in
    with_own a.run a.zeroth.now (sym c.in-Ok.is ∙ c.judge.ensures) (was_false c.is_own.ensures c.if-not-is_own.true)

pub returns-in-Err : goal.returns-in-Err
returns-in-Err c = let a = c.args in with_refused a.run a.zeroth.now (sym c.in-Err.is ∙ c.judge.ensures)

pub returns-else-not-is_own : goal.returns-else-not-is_own
returns-else-not-is_own c =
    let a = c.args in
    with_held a.run a.zeroth.now (sym c.in-Ok.is ∙ c.judge.ensures) (was_true c.is_own.ensures c.if-not-is_own.false)
