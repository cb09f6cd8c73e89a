use Rattle.sources.proofs.finding.with_other.Goals as goal

pub returns : goal.returns
returns c = rw (c.both.ensures, c.is_empty.ensures)
