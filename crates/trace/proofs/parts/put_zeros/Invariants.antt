use Rattle.std.proofs.Common.{◌≡◌, ◌-◌, ◌≤◌, length, replicate}
use lib.Seq.{sets}
use Rattle.trace.proofs.parts.put_zeros.Given as goal

abbrev pub invariant-loop-at : goal.invariant-loop-at
invariant-loop-at l =
    (l.at ≤ 510) × (length l.out ≡ length l.initial.out) × (sets l.out l.at (replicate (510 - l.at) 0) ≡ sets l.initial.out l.from (replicate (510 - l.from) 0))

abbrev pub decreases-loop-at : goal.decreases-loop-at
decreases-loop-at l = 510 - l.at
