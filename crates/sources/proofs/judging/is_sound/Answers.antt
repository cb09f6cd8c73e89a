use borrow.Author.Tests.{le-leb, lt-leb}
use Rattle.source.specs.Totals.{most_told}
use Rattle.sources.proofs.judging.is_sound.Goals as goal

pub returns-then-t-gt-MOST : goal.returns-then-t-gt-MOST
returns-then-t-gt-MOST c = rw (lt-leb c.args.t.jumped most_told c.if-t-gt-MOST.true)

pub returns : goal.returns
returns c = rw (le-leb c.args.t.jumped most_told c.if-t-gt-MOST.false)
