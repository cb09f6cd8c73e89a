use mathlib.Core.Path.{◌∙◌, ap}
use Rattle.breaker.specs.declared.Answer.TheVariants.{Refused}
use Rattle.breaker.specs.Answers.{answers}
use Rattle.answers.specs.declared.Refusal.TheVariants.{Limits}
use Rattle.breaker.proofs.Breaker.unstarted.Goals as goal

pub returns : goal.returns
returns c = c.answered.ensures ∙ ap (answers (Refused Limits)) c.fresh.ensures
