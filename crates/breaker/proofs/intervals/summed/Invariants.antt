use mathlib.Core.Path.{◌≡◌}
use Prim.Native.Nat.{◌*◌, ◌≤◌}
use lib.ListN.{take}
use Rattle.breaker.specs.Windows.{W, P}
use Rattle.breaker.proofs.intervals.summed.Given as goal

abbrev pub invariant-loop-x : goal.invariant-loop-x
invariant-loop-x l =
    (l.w ≡ W (take l.x-index l.xs)) × (l.p ≡ P (take l.x-index l.xs)) × (l.w ≤ l.x-index * 10000000) × (l.p ≤ l.x-index * 2550000000)
