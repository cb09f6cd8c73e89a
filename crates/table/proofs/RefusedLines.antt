-- Laws of the line of a refused block. Assumes nothing.
use mathlib.Core.Path.{◌≡◌, refl, ◌∙◌}
use mathlib.Core.List.{List, [], ◌∷◌, ◌++◌, append_assoc}
use Prim.Native.Nat.{ℕ, ◌+◌, ◌-◌}
use native.Mathlib.Omega.{arith}
use lib.ListN.{length, set, length-append}
use lib.Seq.{sets}
use Rattle.answers.proofs.Stores.{sets-step}
use Rattle.table.specs.Decimal.{decimal}
use Rattle.answers.specs.Texts.{codes}
use Rattle.table.specs.Lines.{refused_line}
use Rattle.table.specs.Theorems.{RefusedFits}
use Rattle.table.proofs.Backwards.{store_end}
use Rattle.table.proofs.Digits.{length_most, length-u64}

module _ (n b : ℕ) where
  pub length-refused : length (refused_line n b) ≡ 8 + length (decimal n) + (9 + length (decimal b))
  unfolding refused_line
  length-refused = simp length-append (omega arith)

  parts : refused_line n b ≡ (codes "refused " ++ decimal n) ++ ((codes " block " ++ decimal b) ++ (13 ∷ 10 ∷ []))
  unfolding refused_line
  parts = simp append_assoc

  -- a text and a number, another text and number, and the end
  pub refused_stored : (old : List ℕ) (middle size : ℕ) {one two : List ℕ} → middle ≡ 8 + length (decimal n) → size ≡ middle + (9 + length (decimal b))
      → one ≡ sets old 0 (codes "refused " ++ decimal n) → two ≡ sets one middle (codes " block " ++ decimal b)
      → set (set two (size - 2) 13) (size - 1) 10 ≡ sets old 0 (refused_line n b)
  refused_stored old middle size {one} {two} em es e₁ e₂ =
      let first = length-append (codes "refused ") (decimal n) in
      let second = length-append (codes " block ") (decimal b) in
      store_end two size 13 10 (omega arith)
      ∙ sets-step one middle (codes " block " ++ decimal b) (13 ∷ 10 ∷ []) refl e₂ (omega arith)
      ∙ sets-step old 0 (codes "refused " ++ decimal n) ((codes " block " ++ decimal b) ++ (13 ∷ 10 ∷ [])) parts e₁ (omega arith)

pub refused_fits : RefusedFits
refused_fits number block h k = omega (arith, length-refused number block, length_most 2 number (omega arith), length-u64 block k)
