use mathlib.Core.Path.{◌≡◌}
use Prim.Native.Nat.{◌-◌}
use Rattle.sources.specs.Seats.{pushed}
use Rattle.sources.proofs.tables.put.Given as goal

abbrev pub invariant-loop-i : goal.invariant-loop-i
invariant-loop-i l =
    (l.next.count ≡ l.initial.next.count)
    × (pushed l.i (l.end - l.i) l.carried l.next.places ≡ pushed l.initial.i (l.end - l.initial.i) l.initial.carried l.initial.next.places)

abbrev pub decreases-loop-i : goal.decreases-loop-i
decreases-loop-i l = l.end - l.i
