use mathlib.Core.Path.{sym, ◌∙◌}
use Rattle.trace.proofs.Placed.{later_arrivals}
use Rattle.convert.specs.Runs.{row_in, next_of}
use Rattle.convert.proofs.Forwarding.{forwarded_refuses}
use Rattle.convert.proofs.Steps.{next_by_lem}
use Rattle.convert.proofs.rows.forward.Goals as goal

pub forward_row-requires : goal.forward_row-requires
forward_row-requires c =
    let a = c.args in
    (c.requires, later_arrivals a.run.form a.run.ssrc a.block.now (sym c.read_own.ensures.value ∙ c.in-Ok.is))

pub returns-in-Ok : goal.returns-in-Ok
returns-in-Ok c =
    let a = c.args in
    rw (next_by_lem a.run a.block.now (sym c.read_own.ensures.value ∙ c.in-Ok.is)) c.forward_row.ensures

pub returns-in-Err : goal.returns-in-Err
returns-in-Err c =
    let a = c.args in
    let b = a.block.now in
    forwarded_refuses a.run (row_in a.zeroth.now (next_of a.run b)) a.out.now (next_by_lem a.run b (sym c.read_own.ensures.value ∙ c.in-Err.is)) c.refused.ensures.0 c.refused.ensures.1
