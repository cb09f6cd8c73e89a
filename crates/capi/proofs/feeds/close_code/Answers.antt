use mathlib.Core.Path.{sym, ap, ◌∙◌}
use Rattle.capi.specs.Feeds.{close_code}
use Rattle.capi.proofs.feeds.close_code.Goals as goal

pub returns-in-Refused : goal.returns-in-Refused
returns-in-Refused c = c.number.ensures ∙ sym (ap close_code c.in-Refused.is)

pub returns-in-Faulty : goal.returns-in-Faulty
returns-in-Faulty c = c.number-in-Faulty.ensures ∙ sym (ap close_code c.in-Faulty.is)
