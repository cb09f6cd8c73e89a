use mathlib.Core.Path.{sym}
use native.Mathlib.Omega.{arith}
use borrow.Author.Tests.{lt-leb}
use Prim.Native.Nat.{◌+◌, ◌*◌}
use Rattle.format.specs.Blocks.{block_bytes}
use Rattle.convert.specs.Feeds.{most_fed}
use Rattle.convert.proofs.feed_soundness.is_taken.Goals as goal

pub returns-then-blocks : goal.returns-then-blocks
returns-then-blocks c = let a = c.args in sym (lt-leb (block_bytes * a.blocks + a.kept) most_fed (omega (arith, c.if-blocks.true)))
