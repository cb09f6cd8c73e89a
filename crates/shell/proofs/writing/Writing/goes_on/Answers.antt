use borrow.Author.Tests.{eq-eqb, ne_eqb}
use Rattle.shell.specs.Writes.{is_unwritten}
use Rattle.shell.proofs.writing.Writing.goes_on.Goals as goal

pub returns-then-self-eq0 : goal.returns-then-self-eq0
unfolding is_unwritten
returns-then-self-eq0 c = rw (eq-eqb c.args.self.left 0 c.if-self-eq0.true)

pub returns : goal.returns
unfolding is_unwritten
returns c = rw (ne_eqb c.args.self.left 0 c.if-self-eq0.false)
