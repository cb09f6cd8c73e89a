use mathlib.Core.Path.{ap, ◌∙◌}
use Rattle.sources.specs.Seeing.{checked_seen}
use Rattle.sources.proofs.Calling.{checked_seen_lem}
use Rattle.sources.proofs.Table.check.Goals as goal

pub returns : goal.returns
returns c = c.judged.ensures ∙ ap checked_seen c.find.ensures ∙ checked_seen_lem 0 c.args.self
