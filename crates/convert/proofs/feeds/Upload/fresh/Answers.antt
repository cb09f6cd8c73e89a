use Rattle.std.specs.Prelude.{None}
use mathlib.Core.Path.{ap}
use Rattle.convert.specs.declared.Run.{Run}
use Rattle.convert.proofs.feeds.Upload.fresh.Goals as goal

pub returns : goal.returns
returns c = ap (λ (r : Run). record { run = r; blocks = 0; kept = 0; ended = None }) c.no_run.ensures
