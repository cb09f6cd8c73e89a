use mathlib.Core.Path.{sym, ◌∙◌}
use Rattle.shell.proofs.printing.Output.after.Goals as goal

pub returns-then-has_failed : goal.returns-then-has_failed
returns-then-has_failed c = rw (sym c.has_failed.ensures ∙ c.if-has_failed.true)

pub returns-else-has_failed : goal.returns-else-has_failed
returns-else-has_failed c = rw (sym c.has_failed.ensures ∙ c.if-has_failed.false)
