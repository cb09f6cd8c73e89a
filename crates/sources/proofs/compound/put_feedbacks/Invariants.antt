use mathlib.Core.Path.{◌≡◌}
use Prim.Native.Nat.{◌+◌, ◌-◌, ◌*◌, ◌≤◌}
use mathlib.Core.Bool.{true}
use mathlib.Core.List.{map}
use lib.ListN.{length, drop, take}
use lib.Seq.{sets}
use Rattle.answers.specs.Conditions.{all}
use Rattle.sources.specs.Places.{sound_place}
use Rattle.sources.specs.Compounds.{feedbacks}
use Rattle.sources.proofs.compound.put_feedbacks.Given as goal

abbrev pub invariant-loop-i : goal.invariant-loop-i
invariant-loop-i l =
    (length l.out ≡ length l.initial.out)
    × (l.i ≤ l.n)
    × (length l.t.places ≡ 16)
    × (all (map sound_place (drop l.i (take l.n l.t.places))) ≡ true)
    × (sets l.out (8 + 32 * l.i) (feedbacks l.sender (drop l.i (take l.n l.t.places))) ≡ sets l.initial.out 8 (feedbacks l.sender (take l.n l.t.places)))

abbrev pub decreases-loop-i : goal.decreases-loop-i
decreases-loop-i l = l.n - l.i
