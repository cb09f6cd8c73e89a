-- Laws of the line of a number. Assumes nothing.
use mathlib.Core.Path.{◌≡◌, refl, ap, ◌∙◌}
use mathlib.Core.List.{List, [], ◌∷◌}
use Prim.Native.Nat.{ℕ, ◌+◌, ◌-◌}
use native.Mathlib.Omega.{arith}
use lib.ListN.{length, set, length-append}
use lib.Seq.{sets}
use Rattle.answers.proofs.Stores.{sets-step}
use Rattle.table.specs.Decimal.{decimal}
use Rattle.table.specs.Lines.{number_line}
use Rattle.table.specs.Theorems.{NumberFits}
use Rattle.table.proofs.Backwards.{store_end}
use Rattle.table.proofs.Digits.{length-u64}

module _ (n : ℕ) where
  pub length-number : length (number_line n) ≡ length (decimal n) + 2
  unfolding number_line
  length-number = length-append (decimal n) (13 ∷ 10 ∷ [])

  -- the digits, which begin at the front, and the end
  pub number_stored : (old : List ℕ) (at size : ℕ) {one : List ℕ} → size ≡ length (decimal n) + 2 → at + length (decimal n) ≡ size - 2
      → one ≡ sets old at (decimal n) → set (set one (size - 2) 13) (size - 1) 10 ≡ sets old 0 (number_line n)
  unfolding number_line
  number_stored old at size {one} es ea e =
      let front : at ≡ 0 = omega (arith, es, ea) in
      store_end one size 13 10 (omega (arith, es))
      ∙ sets-step old 0 (decimal n) (13 ∷ 10 ∷ []) refl (e ∙ ap (λ (k : ℕ). sets old k (decimal n)) front) (omega (arith, es))

pub number_fits_lem : NumberFits
number_fits_lem n h = omega (arith, length-number n, length-u64 n h)
