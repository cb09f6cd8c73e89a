use mathlib.Core.Path.{sym, ap, ◌∙◌}
use Rattle.convert.specs.Feeds.{keepable}
use Rattle.convert.proofs.feed_soundness.is_kept.Goals as goal

pub returns-in-Some : goal.returns-in-Some
returns-in-Some c = c.is_fault.ensures ∙ sym (ap keepable c.in-Some.is)
