use mathlib.Core.Path.{◌≡◌}
use Prim.Native.Nat.{◌-◌}
use lib.ListN.{length}
use Rattle.sources.specs.Seats.{pushed}
use Rattle.sources.proofs.lending.put.Given as goal

abbrev pub invariant-loop-i : goal.invariant-loop-i
invariant-loop-i l =
    (length l.places ≡ length l.initial.places)
    × (pushed l.i (l.change.end - l.i) l.carried l.places ≡ pushed l.initial.i (l.change.end - l.initial.i) l.initial.carried l.initial.places)

abbrev pub decreases-loop-i : goal.decreases-loop-i
decreases-loop-i l = l.change.end - l.i
