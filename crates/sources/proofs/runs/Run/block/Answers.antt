use mathlib.Core.Path.{sym, subst, ◌∙◌}
use Rattle.sources.specs.Runs.{call_next, TakesBlock}
use Rattle.sources.proofs.RunFaults.{judged_none}
use Rattle.sources.proofs.RunSteps.{call_refused, call_goes, takes_refuses}
use Rattle.sources.proofs.runs.Run.block.Goals as goal

pub returns-in-Err : goal.returns-in-Err
returns-in-Err c =
    let a = c.args in
    let b = a.block.now in
    subst (TakesBlock a.self (call_next a.self b)) (sym c.refused.ensures)
    (takes_refuses a.self (call_refused a.self b (sym c.in-Err.is ∙ c.judge.ensures)))

pub returns-in-Ok : goal.returns-in-Ok
returns-in-Ok c =
    let a = c.args in
    let b = a.block.now in
    subst (λ n. TakesBlock a.self n c.step.result)
    (sym (call_goes a.self b (judged_none a.self b (sym c.in-Ok.is ∙ c.judge.ensures)).0)) c.step.ensures
