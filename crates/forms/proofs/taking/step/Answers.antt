use mathlib.Core.Path.{sym, ◌∙◌}
use Rattle.trace.proofs.Placed.{later_arrivals}
use Rattle.forms.proofs.Steps.{takes_refuses, next_refused}
use Rattle.forms.proofs.taking.step.Goals as goal

pub timed-requires : goal.timed-requires
timed-requires c =
    (c.requires, later_arrivals c.args.c.form c.args.c.ssrc c.args.block.now (sym c.read_own.ensures.value ∙ c.in-Ok.is))

pub returns-in-Err : goal.returns-in-Err
returns-in-Err c =
    rw c.refused.ensures
    (takes_refuses c.args.c c.args.part.now c.args.out.now
    (next_refused c.args.c.form c.args.c.ssrc c.args.block.now (sym c.read_own.ensures.value ∙ c.in-Err.is)))
