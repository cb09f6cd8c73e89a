use mathlib.Core.Path.{◌≡◌}
use Prim.Native.Nat.{◌-◌}
use lib.ListN.{length, drop}
use Rattle.sources.proofs.Tallying.{all_tallied}
use Rattle.sources.proofs.judging.are_sound.Given as goal

abbrev pub invariant-loop-i : goal.invariant-loop-i
invariant-loop-i l = (length l.tallies ≡ 16) × (all_tallied (drop l.i l.tallies) ≡ all_tallied l.tallies)

abbrev pub decreases-loop-i : goal.decreases-loop-i
decreases-loop-i l = 16 - l.i
