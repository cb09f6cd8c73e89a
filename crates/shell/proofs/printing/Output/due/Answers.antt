use Rattle.shell.specs.Kept.{due_of}
use Rattle.shell.proofs.printing.Output.due.Goals as goal

pub returns-then-self : goal.returns-then-self
unfolding due_of
returns-then-self c = rw c.if-self.true

pub returns : goal.returns
unfolding due_of
returns c = rw c.if-self.false
