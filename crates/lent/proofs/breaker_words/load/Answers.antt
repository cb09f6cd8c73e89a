use mathlib.Core.Path.{ap}
use Rattle.std.specs.Prelude.{Result, Ok, Err}
use Rattle.breaker.specs.declared.Breaker.{Breaker}
use Rattle.answers.proofs.Conditions.{was_false, was_true}
use Rattle.lent.proofs.breaker_words.load.Goals as goal

abbrev misread : Breaker → Result Breaker Breaker
misread b = Err b

abbrev read : Breaker → Result Breaker Breaker
read b = Ok b

pub returns-then-not-do_fit : goal.returns-then-not-do_fit
returns-then-not-do_fit c = rw (was_false c.do_fit.ensures c.if-not-do_fit.true) (ap misread c.breaker_in-breaker.ensures)

pub returns : goal.returns
returns c = rw (was_true c.do_fit.ensures c.if-not-do_fit.false) (ap read c.breaker_in-breaker.ensures)
