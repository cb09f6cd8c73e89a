use mathlib.Core.Path.{sym, ap}
use Rattle.breaker.specs.declared.State.{State}
use Rattle.breaker.specs.Soundness.{run_ok}
use Rattle.breaker.proofs.soundness.run_ok.Goals as goal

pub returns-in-Running : goal.returns-in-Running
returns-in-Running c = let a = c.args in sym (ap (λ (s : State). run_ok s a.run a.m) c.in-Running.is)

pub returns-in-Stopped : goal.returns-in-Stopped
returns-in-Stopped c = let a = c.args in sym (ap (λ (s : State). run_ok s a.run a.m) c.in-Stopped.is)
