use mathlib.Core.Path.{◌∙◌, ap}
use Rattle.between.specs.declared.Signals.{Signals}
use Rattle.between.specs.Differences.{expecting_of, between_as}
use mathlib.Core.Path.{ap}
use Rattle.between.proofs.feedbacks.Goals as goal

pub returns-clause-value : goal.returns-clause-value
returns-clause-value c =
    let a = c.args in
    c.expecting.ensures.value ∙ ap (λ (s : Signals). expecting_of s a.later.highest a.earlier.highest) c.counters.ensures

pub returns-clause-numbered : goal.returns-clause-numbered
returns-clause-numbered c = ap between_as (returns-clause-value c)
