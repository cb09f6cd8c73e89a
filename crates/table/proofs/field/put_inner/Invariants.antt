use mathlib.Core.Path.{◌≡◌}
use Prim.Native.Nat.{◌+◌}
use lib.ListN.{length, drop}
use lib.Seq.{sets}
use Rattle.table.specs.Field.{doubled}
use Rattle.table.proofs.field.put_inner.Given as goal

abbrev pub invariant-loop-c : goal.invariant-loop-c
invariant-loop-c l =
    (l.place + length (doubled (drop l.c-index l.s)) ≡ l.at + length (doubled l.s)) × (length l.out ≡ length l.initial.out)
    × (sets l.out l.place (doubled (drop l.c-index l.s)) ≡ sets l.initial.out l.at (doubled l.s))
