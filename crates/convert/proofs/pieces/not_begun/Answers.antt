use Rattle.std.specs.Prelude.{None}
use mathlib.Core.Path.{ap}
use Rattle.convert.specs.declared.Run.{Run}
use Rattle.convert.proofs.pieces.not_begun.Goals as goal

pub returns : goal.returns
returns c = ap (λ (r : Run). record { run = r; block = 0; ended = None }) c.no_run.ensures
