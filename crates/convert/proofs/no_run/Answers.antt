use mathlib.Core.Path.{ap}
use Rattle.format.specs.declared.Form.TheVariants.{One}
use Rattle.source.specs.declared.Totals.{Totals}
use Rattle.convert.proofs.no_run.Goals as goal

pub returns : goal.returns
returns c = ap (λ (t : Totals). record { form = One; length = 0; ssrc = 0; totals = t }) c.fresh.ensures
