use mathlib.Core.Path.{sym, ◌∙◌, ap}
use Rattle.breaker.specs.Limits.{loss_ok}
use Rattle.breaker.specs.FractionLost.{fraction_of}
use Rattle.breaker.proofs.losses.fraction_of.Goals as goal

pub of_counts-requires : goal.of_counts-requires
of_counts-requires c = sym (ap loss_ok c.in-Counts.is) ∙ c.requires

pub returns-in-Counts : goal.returns-in-Counts
returns-in-Counts c = c.of_counts.ensures ∙ sym (ap fraction_of c.in-Counts.is)
