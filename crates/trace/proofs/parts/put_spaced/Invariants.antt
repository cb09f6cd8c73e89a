use Rattle.std.proofs.Common.{◌≡◌, ◌+◌, ◌-◌, ◌≤◌, length, drop}
use lib.Seq.{sets}
use Rattle.trace.specs.Retired.{spaced_label}
use Rattle.trace.proofs.parts.put_spaced.Given as goal

abbrev pub invariant-loop-i : goal.invariant-loop-i
invariant-loop-i l =
    (l.i ≤ length l.label) × (length l.out ≡ length l.initial.out) × (sets l.out (l.at + l.i) (spaced_label (drop l.i l.label)) ≡ sets l.initial.out l.at (spaced_label l.label))

abbrev pub decreases-loop-i : goal.decreases-loop-i
decreases-loop-i l = length l.label - l.i
