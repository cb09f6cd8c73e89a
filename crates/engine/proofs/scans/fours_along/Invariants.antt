use mathlib.Core.Path.{◌≡◌}
use lib.ListN.{length}
use Prim.Native.Nat.{◌-◌, ◌≤◌}
use Rattle.engine.proofs.Additions.{AddingFours}
use Rattle.engine.proofs.scans.fours_along.Given as goal

abbrev pub invariant-loop-at : goal.invariant-loop-at
invariant-loop-at l = (4 ≤ l.width) × (l.size ≡ length l.records) × AddingFours l.width l.records 0 l.at l.fours

abbrev pub decreases-loop-at : goal.decreases-loop-at
decreases-loop-at l = l.size - l.at
