use lib.ListN.{replicate}
use Rattle.sources.proofs.Table.empty.Goals as goal

pub returns : goal.returns
returns c = λ i. record { places = replicate 16 (c.empty-place.ensures i); count = c.args.count }
