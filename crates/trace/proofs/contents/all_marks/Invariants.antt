use Rattle.std.proofs.Common.{◌≡◌, ℕ, ◌+◌, ◌-◌, ◌*◌, ◌/◌, ◌≤◌, length, drop}
use Rattle.trace.proofs.Tallies.{tally}
use Rattle.trace.proofs.contents.all_marks.Given as goal

abbrev pub invariant-loop-i : goal.invariant-loop-i
invariant-loop-i l = (l.i ≤ length l.marks) × (l.sum ≤ 63 * l.i) × (l.sum + tally (λ (m : ℕ). m / 4) (drop l.i l.marks) ≡ tally (λ (m : ℕ). m / 4) l.marks)

abbrev pub decreases-loop-i : goal.decreases-loop-i
decreases-loop-i l = length l.marks - l.i
