use Rattle.std.proofs.Common.{◌≡◌, ◌+◌, ◌-◌, ◌*◌, ◌%◌, ◌≤◌, length, drop}
use Rattle.trace.proofs.Sums.{low_total}
use Rattle.trace.proofs.checksum.ones_sum.Given as goal

abbrev pub invariant-loop-i : goal.invariant-loop-i
invariant-loop-i l = (l.i ≤ length l.s) × (l.i % 2 ≡ 0) × (2 * l.sum ≤ 65535 * l.i) × (l.sum + low_total (drop l.i l.s) ≡ low_total l.s)

abbrev pub decreases-loop-i : goal.decreases-loop-i
decreases-loop-i l = length l.s - l.i
