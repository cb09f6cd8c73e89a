use Rattle.shell.specs.Transfers.{ready_of}
use Rattle.shell.proofs.transfers.Transfer.ready.Goals as goal

pub returns-then-self : goal.returns-then-self
unfolding ready_of
returns-then-self c = rw c.if-self.true

pub returns : goal.returns
unfolding ready_of
returns c = rw c.if-self.false
