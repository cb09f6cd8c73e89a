use mathlib.Core.Path.{◌≡◌}
use Prim.Native.Nat.{ℕ, ◌+◌, ◌-◌, ◌≤◌}
use lib.ListN.{length}
use lib.Seq.{sets}
use Rattle.table.specs.Decimal.{decimal}
use Rattle.table.proofs.decimal.put_before.Given as goal

-- where the digits begin
abbrev pub start : ℕ → ℕ → ℕ
start n end = end - length (decimal n)

abbrev pub invariant-loop-rest : goal.invariant-loop-rest
invariant-loop-rest l =
    (l.rest ≤ l.n) × (l.last ≡ start l.n l.end + length (decimal l.rest)) × (l.last ≤ length l.out) × (length l.out ≡ length l.initial.out) × (sets l.out (start l.n l.end) (decimal l.rest) ≡ sets l.initial.out (start l.n l.end) (decimal l.n))

abbrev pub decreases-loop-rest : goal.decreases-loop-rest
decreases-loop-rest l = l.rest
