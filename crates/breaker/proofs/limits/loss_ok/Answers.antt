use mathlib.Core.Path.{sym, ◌∙◌, ap}
use Rattle.breaker.specs.Limits.{loss_ok}
use Rattle.breaker.proofs.limits.loss_ok.Goals as goal

pub returns-in-Fraction : goal.returns-in-Fraction
returns-in-Fraction c = sym (ap loss_ok c.in-Fraction.is)

pub returns-in-Counts : goal.returns-in-Counts
returns-in-Counts c = c.counts_ok.ensures ∙ sym (ap loss_ok c.in-Counts.is)
