use borrow.Author.Tests.{lt-ltb, le-ltb}
use Rattle.sources.specs.Lending.{in_use}
use Rattle.sources.proofs.tables.in_use.Goals as goal

pub returns-then-count-gt-MOST : goal.returns-then-count-gt-MOST
unfolding in_use
returns-then-count-gt-MOST c = rw (lt-ltb 16 c.args.count c.if-count-gt-MOST.true)

pub returns : goal.returns
unfolding in_use
returns c = rw (le-ltb 16 c.args.count c.if-count-gt-MOST.false)
