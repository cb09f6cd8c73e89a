use Rattle.std.proofs.Common.{◌≡◌, ◌+◌, ◌-◌, ◌≤◌, length, drop}
use Rattle.trace.proofs.Tallies.{tally}
use Rattle.trace.proofs.Spacing.{retired_of}
use Rattle.trace.proofs.label.retired_in.Given as goal

abbrev pub invariant-loop-i : goal.invariant-loop-i
invariant-loop-i l = (l.i ≤ length l.label) × (l.number ≤ l.i) × (l.number + tally retired_of (drop l.i l.label) ≡ tally retired_of l.label)

abbrev pub decreases-loop-i : goal.decreases-loop-i
decreases-loop-i l = length l.label - l.i
