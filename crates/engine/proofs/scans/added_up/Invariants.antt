use mathlib.Core.Path.{◌≡◌}
use Prim.Native.Nat.{◌-◌, ◌≤◌}
use lib.ListN.{length}
use Rattle.engine.proofs.Additions.{Adding}
use Rattle.engine.proofs.scans.added_up.Given as goal

abbrev pub invariant-loop-at : goal.invariant-loop-at
invariant-loop-at l =
    (4 ≤ l.width) × (l.size ≡ length l.records) × Adding l.width l.records l.turned l.at l.whole l.halves l.threes l.fours l.strays l.expected

abbrev pub decreases-loop-at : goal.decreases-loop-at
decreases-loop-at l = l.size - l.at
