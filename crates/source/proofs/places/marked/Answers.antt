use borrow.Author.Tests.{lt-ltb, le-ltb}
use Rattle.source.specs.Places.{place, marks}
use Rattle.source.proofs.places.marked.Goals as goal

pub returns-then-k-lt64 : goal.returns-then-k-lt64
unfolding marks place
returns-then-k-lt64 c = rw (lt-ltb _ _ c.if-k-lt64.true)

pub returns-else-k-lt64 : goal.returns-else-k-lt64
unfolding marks place
returns-else-k-lt64 c = rw (le-ltb _ _ c.if-k-lt64.false)
