use mathlib.Core.Path.{sym, ◌∙◌}
use Rattle.trace.proofs.Placed.{later_arrivals}
use Rattle.walk.proofs.Putting.{step_refuses}
use Rattle.convert.specs.Runs.{row_in, next_of}
use Rattle.convert.proofs.Steps.{next_by_lem}
use Rattle.convert.proofs.rows.step.Goals as goal

pub arrivals-requires : goal.arrivals-requires
arrivals-requires c =
    (c.requires, later_arrivals c.args.run.form c.args.run.ssrc c.args.block.now (sym c.read_own.ensures.value ∙ c.in-Ok.is))

pub returns-in-Ok : goal.returns-in-Ok
returns-in-Ok c =
    let a = c.args in
    rw (next_by_lem a.run a.block.now (sym c.read_own.ensures.value ∙ c.in-Ok.is)) c.arrivals.ensures

pub returns-in-Err : goal.returns-in-Err
returns-in-Err c =
    let a = c.args in
    let b = a.block.now in
    step_refuses a.run (row_in a.zeroth.now (next_of a.run b)) a.out.now (next_by_lem a.run b (sym c.read_own.ensures.value ∙ c.in-Err.is)) c.refused.ensures.0 c.refused.ensures.1
