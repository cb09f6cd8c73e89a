use borrow.Author.Rules.{rules}
use mathlib.Core.Path.{◌≡◌, sym, ap, ◌∙◌}
use native.Mathlib.Omega.{arith}
use Prim.Native.Nat.{ℕ, ◌+◌, ◌-◌, ◌%◌, ◌≤◌, ◌<◌}
use native.Mathlib.Decide.{dec_le}
use lib.IntN.{ℤ, pos, ◌-ℤ◌}
use Rattle.numbers.specs.Integers.{modulo}
use Rattle.numbers.proofs.Integers.{minus_pos, minus_neg}
use Rattle.source.specs.Arrivals.{distance}
use Rattle.source.proofs.sequence.distance.Goals as goal

-- the distance from a number that is not negative
distance_nat : (w h : ℕ) → w < 65536 → (w + 65536 - h % 65536) % 65536 ≡ modulo 65536 (pos w -ℤ pos h)
distance_nat w h l = go (dec_le h w)
  where
    go : Dec (h ≤ w) → (w + 65536 - h % 65536) % 65536 ≡ modulo 65536 (pos w -ℤ pos h)
    go (yes g) = sym (ap (modulo 65536) (minus_pos w h g) ∙ omega arith)
    go (no g) = sym (ap (modulo 65536) (minus_neg w h (omega arith)) ∙ omega arith)

pub returns : goal.returns
unfolding distance
returns c =
    let a = c.args in
    rw c.from.ensures (distance_nat a.wire.0 c.natural.result (search rules)
    ∙ ap (λ (z : ℤ). modulo 65536 (pos a.wire.0 -ℤ z)) (sym c.natural.ensures))
