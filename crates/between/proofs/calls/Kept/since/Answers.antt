use mathlib.Core.Path.{◌∙◌, ap}
use Rattle.between.specs.declared.Signals.{Signals}
use Rattle.between.specs.Differences.{signals_of, expecting_of, between_as}
use Rattle.between.specs.PacketCalls.{since_kept}
use mathlib.Core.Path.{ap}
use Rattle.between.proofs.calls.Kept.since.Goals as goal

pub returns-clause-value : goal.returns-clause-value
unfolding since_kept
returns-clause-value c =
    let a = c.args in
    let signals = c.counters.ensures ∙ (λ i. signals_of (c.counters_of-new.ensures i) (c.counters_of-old.ensures i)) in
    c.expecting.ensures.value ∙ ap (λ (s : Signals). expecting_of s a.self.highest a.earlier.highest) signals

pub returns-clause-numbered : goal.returns-clause-numbered
returns-clause-numbered c = ap between_as (returns-clause-value c)
