use mathlib.Core.Path.{◌≡◌}
use Prim.Native.Nat.{◌+◌, ◌-◌, ◌≤◌}
use lib.ListN.{length, drop}
use lib.Seq.{sets}
use Rattle.lent.proofs.access.put_all.Given as goal

abbrev pub invariant-loop-i : goal.invariant-loop-i
invariant-loop-i l = (length l.words ≡ length l.initial.words) × (l.i ≤ length l.new) × (sets l.words (l.at + l.i) (drop l.i l.new) ≡ sets l.initial.words l.at l.new)

abbrev pub decreases-loop-i : goal.decreases-loop-i
decreases-loop-i l = length l.new - l.i
