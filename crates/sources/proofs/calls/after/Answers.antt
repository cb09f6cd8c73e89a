use mathlib.Core.Path.{sym, ap}
use Rattle.source.specs.Arrivals.{after}
use Rattle.sources.proofs.calls.after.Goals as goal

pub returns-in-Refused : goal.returns-in-Refused
returns-in-Refused c = sym (ap after c.in-Refused.is)
