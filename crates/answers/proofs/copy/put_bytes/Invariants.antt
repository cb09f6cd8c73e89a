use mathlib.Core.Path.{◌≡◌}
use Prim.Native.Nat.{◌+◌, ◌-◌, ◌≤◌, min}
use lib.ListN.{length, drop}
use lib.Seq.{sets}
use Rattle.answers.proofs.copy.put_bytes.Given as goal

abbrev pub invariant-loop-i : goal.invariant-loop-i
invariant-loop-i l =
    (l.from ≡ min l.at (length l.initial.out))
    × (l.n ≡ min (length l.s) (length l.initial.out - l.from))
    × (l.i ≤ l.n)
    × (length l.out ≡ length l.initial.out)
    × (sets l.out (l.from + l.i) (drop l.i l.s) ≡ sets l.initial.out l.from l.s)
