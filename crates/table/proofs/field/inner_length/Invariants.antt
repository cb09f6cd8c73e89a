use mathlib.Core.Path.{◌≡◌}
use Prim.Native.Nat.{◌+◌, ◌*◌, ◌≤◌}
use lib.ListN.{length, drop}
use Rattle.table.specs.Field.{doubled}
use Rattle.table.proofs.field.inner_length.Given as goal

abbrev pub invariant-loop-c : goal.invariant-loop-c
invariant-loop-c l = (l.count ≤ 2 * l.c-index) × (l.count + length (doubled (drop l.c-index l.s)) ≡ length (doubled l.s))
