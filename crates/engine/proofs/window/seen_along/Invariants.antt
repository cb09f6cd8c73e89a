use mathlib.Core.Path.{◌≡◌}
use Prim.Native.Nat.{◌-◌, ◌≤◌, ◌<◌}
use lib.ListN.{length}
use Rattle.engine.proofs.Looking.{Looking}
use Rattle.engine.proofs.window.seen_along.Given as goal

abbrev pub invariant-loop-at : goal.invariant-loop-at
invariant-loop-at l = (4 ≤ l.width) × (l.size ≡ length l.records) × (l.top < 131072) × Looking l.width l.records l.top l.at l.bits l.joined

abbrev pub decreases-loop-at : goal.decreases-loop-at
decreases-loop-at l = l.size - l.at
