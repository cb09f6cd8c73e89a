use Rattle.std.proofs.Common.{ℕ, ◌-◌, length}
use Rattle.trace.proofs.Sums.{Halves}
use Rattle.trace.proofs.checksum.block_sum.Given as goal

abbrev pub invariant-loop-i : goal.invariant-loop-i
invariant-loop-i l = (lowers : ℕ) × Halves l.s l.i l.pairs l.uppers lowers

abbrev pub decreases-loop-i : goal.decreases-loop-i
decreases-loop-i l = length l.s - l.i
