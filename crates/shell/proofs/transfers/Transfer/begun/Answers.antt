use Rattle.shell.proofs.transfers.Transfer.begun.Goals as goal

pub returns : goal.returns
returns c = rw (c.goes_on.ensures, c.new.ensures, c.new-2.ensures)
