use Rattle.std.proofs.Common.{◌≡◌, ◌+◌, ◌-◌, ◌≤◌, length, drop}
use Rattle.trace.proofs.Tallies.{tally, beyond_of}
use Rattle.trace.proofs.contents.all_times.Given as goal

abbrev pub invariant-loop-i : goal.invariant-loop-i
invariant-loop-i l = (l.i ≤ length l.times) × (l.sum ≤ l.i) × (l.sum + tally (beyond_of l.limit) (drop l.i l.times) ≡ tally (beyond_of l.limit) l.times)

abbrev pub decreases-loop-i : goal.decreases-loop-i
decreases-loop-i l = length l.times - l.i
