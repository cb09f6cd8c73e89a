use mathlib.Core.Path.{◌≡◌}
use Prim.Native.Nat.{◌-◌, ◌≤◌}
use lib.ListN.{length, drop, take}
use Rattle.sources.specs.Seeing.{seen_from}
use Rattle.sources.proofs.tables.find.Given as goal

abbrev pub invariant-loop-i : goal.invariant-loop-i
invariant-loop-i l =
    (length l.t.places ≡ 16)
    × ((l.n ≤ 16) × (seen_from l.ssrc l.seen l.i (drop l.i (take l.n l.t.places)) ≡ seen_from l.ssrc l.initial.seen 0 (take l.n l.t.places)))

abbrev pub decreases-loop-i : goal.decreases-loop-i
decreases-loop-i l = l.n - l.i
