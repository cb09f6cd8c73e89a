use Prim.Native.Nat.{◌-◌, ◌≤◌}
use Rattle.sources.proofs.known.place_of.Given as goal

abbrev pub invariant-loop-i : goal.invariant-loop-i
invariant-loop-i l = l.i ≤ 15

abbrev pub decreases-loop-i : goal.decreases-loop-i
decreases-loop-i l = 15 - l.i
