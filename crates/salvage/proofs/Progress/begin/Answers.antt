use mathlib.Core.Path.{sym, ◌∙◌}
use Rattle.salvage.proofs.Calls.{begun_by_lem}
use Rattle.salvage.proofs.Progress.begin.Goals as goal

pub returns-in-Ok : goal.returns-in-Ok
returns-in-Ok c = sym (begun_by_lem c.args.zeroth.now (sym c.read_label.ensures.value ∙ c.in-Ok.is))

pub returns-in-Err : goal.returns-in-Err
returns-in-Err c = sym (begun_by_lem c.args.zeroth.now (sym c.read_label.ensures.value ∙ c.in-Err.is))
