use mathlib.Core.Path.{sym, ap}
use Rattle.sources.specs.Answers.{told}
use Rattle.sources.proofs.calls.told.Goals as goal

pub returns-in-Refused : goal.returns-in-Refused
returns-in-Refused c = sym (ap told c.in-Refused.is)
