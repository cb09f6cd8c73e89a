use lib.ListN.{length}
use Prim.Native.Nat.{◌-◌, ◌≤◌}
use Rattle.engine.proofs.Turns.{Taking}
use Rattle.engine.proofs.runs.along.Given as goal

abbrev pub invariant-loop-at : goal.invariant-loop-at
invariant-loop-at l = (4 ≤ l.width) × Taking l.width l.records l.initial.t l.at l.t

abbrev pub decreases-loop-at : goal.decreases-loop-at
decreases-loop-at l = length l.records - l.at
