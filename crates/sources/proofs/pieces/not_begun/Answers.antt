use Rattle.std.specs.Prelude.{None}
use mathlib.Core.Path.{ap}
use Rattle.sources.specs.declared.runs.Run.{Run}
use Rattle.sources.proofs.pieces.not_begun.Goals as goal

pub returns : goal.returns
returns c = ap (λ (r : Run). record { run = r; block = 0; ended = None }) c.empty.ensures
