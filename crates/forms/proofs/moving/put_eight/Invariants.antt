use mathlib.Core.Path.{◌≡◌}
use Prim.Native.Nat.{◌+◌, ◌≤◌}
use lib.ListN.{length, take, drop}
use lib.Seq.{sets}
use Rattle.forms.proofs.moving.put_eight.Given as goal

abbrev pub invariant-loop-i : goal.invariant-loop-i
invariant-loop-i l =
    (l.i ≤ 8) × (length l.out ≡ length l.initial.out) × (sets l.out (l.at + l.i) (drop l.i (take 8 (drop l.from l.s))) ≡ sets l.initial.out l.at (take 8 (drop l.from l.s)))
