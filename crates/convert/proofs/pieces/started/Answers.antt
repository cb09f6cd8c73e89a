use Rattle.std.specs.Prelude.{Some}
use mathlib.Core.Path.{sym, ap, ◌∙◌}
use Rattle.convert.specs.declared.Run.{Run}
use Rattle.convert.proofs.Calls.{begin_by_lem}
use Rattle.convert.proofs.pieces.started.Goals as goal

pub returns-in-Ok : goal.returns-in-Ok
returns-in-Ok c = sym (begin_by_lem c.args.zeroth.now (sym c.start.ensures.value ∙ c.in-Ok.is))

pub returns-in-Err : goal.returns-in-Err
returns-in-Err c =
    ap (λ (r : Run). record { run = r; block = 0; ended = Some c.in-Err.refusal }) c.no_run.ensures
    ∙ sym (begin_by_lem c.args.zeroth.now (sym c.start.ensures.value ∙ c.in-Err.is))
