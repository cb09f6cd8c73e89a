use mathlib.Core.Path.{◌≡◌}
use Prim.Native.Nat.{◌-◌}
use lib.ListN.{length}
use Rattle.sources.specs.Tallies.{shifted}
use Rattle.sources.proofs.stepping.shifted.Given as goal

abbrev pub invariant-loop-i : goal.invariant-loop-i
invariant-loop-i l = (length l.next ≡ 16) × (shifted l.i (16 - l.i) l.carried l.next ≡ shifted l.initial.i (16 - l.initial.i) l.initial.carried l.initial.next)

abbrev pub decreases-loop-i : goal.decreases-loop-i
decreases-loop-i l = 16 - l.i
