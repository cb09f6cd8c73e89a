use Rattle.breaker.specs.Numbered.{step_as}
use Rattle.breaker.specs.Calls.{heard_of}
use mathlib.Core.Path.{ap}
use Rattle.breaker.proofs.Breaker.heard.Goals as goal

pub returns-clause-value : goal.returns-clause-value
unfolding heard_of
returns-clause-value c = c.timed.ensures

pub returns-clause-numbered : goal.returns-clause-numbered
returns-clause-numbered c = ap step_as (returns-clause-value c)
