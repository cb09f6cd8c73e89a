use Prim.Native.Nat.{◌-◌}
use mathlib.Core.Path.{◌≡◌}
use Rattle.rtcp.proofs.Left.{from_block}
use Rattle.rtcp.proofs.summary_behind.Given as goal

abbrev pub invariant-loop-at : goal.invariant-loop-at
invariant-loop-at l = from_block l.bytes l.media l.end l.at l.summary ≡ from_block l.bytes l.media l.end l.from l.fn.old

abbrev pub decreases-loop-at : goal.decreases-loop-at
decreases-loop-at l = l.end - l.at
