use borrow.Author.Tests.{eq-eqb, ne_eqb}
use Rattle.shell.specs.Tries.{retried_of}
use Rattle.shell.proofs.retries.retried.Goals as goal

pub returns-then-left-eq0 : goal.returns-then-left-eq0
unfolding retried_of
returns-then-left-eq0 c = rw (eq-eqb c.args.left 0 c.if-left-eq0.true)

pub returns : goal.returns
unfolding retried_of
returns c = rw (ne_eqb c.args.left 0 c.if-left-eq0.false)
