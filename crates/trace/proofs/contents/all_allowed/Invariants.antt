use Rattle.std.proofs.Common.{◌≡◌, ◌+◌, ◌-◌, ◌≤◌, length, drop}
use Rattle.trace.proofs.Tallies.{tally, outside_of}
use Rattle.trace.proofs.contents.all_allowed.Given as goal

abbrev pub invariant-loop-i : goal.invariant-loop-i
invariant-loop-i l = (l.i ≤ length l.s) × (l.sum ≤ l.i) × (l.sum + tally outside_of (drop l.i l.s) ≡ tally outside_of l.s)

abbrev pub decreases-loop-i : goal.decreases-loop-i
decreases-loop-i l = length l.s - l.i
