use Rattle.answers.proofs.Conditions.{was_false, was_true}
use Rattle.breaker.proofs.Chains.{malformed_ends, stop_ends}
use Rattle.breaker.proofs.Breaker.opening.Goals as goal

pub returns-then-not-is_sound : goal.returns-then-not-is_sound
returns-then-not-is_sound c = λ next. malformed_ends _ next (was_false c.is_sound.ensures c.if-not-is_sound.true)

pub returns-in-Stopped : goal.returns-in-Stopped
returns-in-Stopped c =
    λ next.
    stop_ends _ next _ (was_true c.is_sound.ensures c.if-not-is_sound.false) c.in-Stopped.is

pub returns-in-Running : goal.returns-in-Running
returns-in-Running c = (was_true c.is_sound.ensures c.if-not-is_sound.false, c.in-Running.is)
