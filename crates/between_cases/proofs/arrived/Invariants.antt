use Prim.Native.Nat.{◌-◌, ◌≤◌}
use Rattle.between_cases.proofs.arrived.Given as goal

abbrev pub invariant-loop-i : goal.invariant-loop-i
invariant-loop-i l = l.i ≤ l.packets

abbrev pub decreases-loop-i : goal.decreases-loop-i
decreases-loop-i l = l.packets - l.i
