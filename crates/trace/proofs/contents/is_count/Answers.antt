use Rattle.std.proofs.Common.{le-leb}
use borrow.Author.Tests.{lt-leb}
use Rattle.trace.specs.Contents.{count_ok}
use Rattle.trace.proofs.contents.is_count.Goals as goal

pub returns-then-n-lt1 : goal.returns-then-n-lt1
unfolding count_ok
returns-then-n-lt1 c = rw (lt-leb 1 _ c.if-n-lt1.true)

pub returns : goal.returns
unfolding count_ok
returns c = rw (le-leb 1 _ c.if-n-lt1.false, c.most.ensures)
