use mathlib.Core.Path.{ap₂}
use lib.Dec.{eqb}
use Rattle.sources.proofs.judging.is_of_trace.Goals as goal

pub returns : goal.returns
returns c = ap₂ eqb c.label.ensures c.label-2.ensures
