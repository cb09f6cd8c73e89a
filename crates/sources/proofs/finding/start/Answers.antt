use Rattle.sources.proofs.finding.start.Goals as goal

pub returns : goal.returns
returns c = rw c.fresh-source.ensures
