use Rattle.std.proofs.Common.{◌≡◌, ℕ, ◌+◌, ◌-◌, ◌*◌, ◌≤◌, length, drop}
use Rattle.trace.proofs.Tallies.{tally}
use Rattle.trace.proofs.contents.all_zero.Given as goal

abbrev pub invariant-loop-i : goal.invariant-loop-i
invariant-loop-i l = (l.i ≤ length l.s) × (l.sum ≤ 255 * l.i) × (l.sum + tally (λ (c : ℕ). c) (drop l.i l.s) ≡ tally (λ (c : ℕ). c) l.s)

abbrev pub decreases-loop-i : goal.decreases-loop-i
decreases-loop-i l = length l.s - l.i
