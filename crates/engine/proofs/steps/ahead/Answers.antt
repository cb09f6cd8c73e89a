use mathlib.Core.Path.{refl, ◌∙◌}
use Rattle.engine.specs.Lean.{ahead}
use Rattle.engine.proofs.Chosen.{raised_same}
use Rattle.engine.proofs.steps.ahead.Goals as goal

pub returns : goal.returns
unfolding ahead
returns c =
    let a = c.args in c.raised.ensures ∙ raised_same a.t refl c.moved_far-next.ensures c.unit.ensures.0
