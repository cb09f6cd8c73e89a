use Rattle.shell.proofs.transfers.Transfer.with_reported.Goals as goal

pub returns : goal.returns
returns c = rw c.with_written-next.ensures
