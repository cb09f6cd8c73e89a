use Rattle.table.proofs.write_refused.Goals as goal

pub returns : goal.returns
returns c = c.line.ensures
