use Rattle.sources.proofs.Slices.{check_here}
use Rattle.sources.proofs.check.Goals as goal

pub returns : goal.returns
returns c = check_here c.args.places.now c.find-seen.result c.judged.result c.find-seen.ensures c.judged.ensures
