use lib.ListN.{replicate}
use Rattle.sources.proofs.runs.Run.empty.Goals as goal

pub returns : goal.returns
returns c =
    let a = c.args in
    λ i. record { form = a.form; length = a.length; table = c.empty-table.ensures i; tallies = replicate 16 (c.fresh-tally.ensures i) }
