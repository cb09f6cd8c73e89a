use mathlib.Core.Path.{refl}
use Rattle.breaker.specs.Windows.{empty_window}
use Rattle.breaker.proofs.intervals.empty.Goals as goal

pub returns : goal.returns
unfolding empty_window
returns c = refl
