-- The entries of a table that keeps the rule. Assumes nothing.
use mathlib.Core.Path.{◌≡◌, sym, ◌∙◌, ap, subst, subst⁻¹}
use mathlib.Core.Bool.{true}
use mathlib.Core.List.{List, [], ◌∷◌}
use Prim.Native.Nat.{ℕ, zero, suc, ◌+◌, ◌*◌, ◌^◌, ◌<◌}
use native.Mathlib.Nat.{add-zero, add-suc, suc-add, le_of_suc-le-suc, not-suc-le-zero}
use native.Mathlib.Omega.{arith}
use borrow.Author.Tests.{leb-true, ltb-true}
use lib.Dec.{leb, ltb}
use lib.ListN.{length, get_or}
use Rattle.answers.proofs.Conditions.{and_left, and_right}
use Rattle.roots.specs.Fractions.{Fraction}
use Rattle.roots.specs.Roots.{scaled_root, Floor}
use Rattle.roots.specs.Private.{is_floor, keeps_rule}
use Rattle.roots.proofs.Floors.{bottom_positive, one_floor}

-- the computed test is the rule
is_floor_lem : (x : Fraction) (r : ℕ) → is_floor x r ≡ true → Floor x r
is_floor_lem x r t =
    let a = leb (r * r * x.bottom) (2 ^ 40 * x.top) in
    let b = ltb (2 ^ 40 * x.top) ((r + 1) * (r + 1) * x.bottom) in
    record { low = leb-true (r * r * x.bottom) (2 ^ 40 * x.top) (and_left a b t); next = ltb-true (2 ^ 40 * x.top) ((r + 1) * (r + 1) * x.bottom) (and_right a b t) }

-- from the test of a whole table to what it gives for n
module _ (top bottom : ℕ) where
  abbrev at : ℕ → Fraction
  at n = record { top = top * n; bottom = bottom }

  floors : (n : ℕ) (xs : List ℕ) → keeps_rule top bottom n xs ≡ true → (k : ℕ) → k < length xs → Floor (at (n + k)) (get_or xs k 0)
  floors n [] t k h = absurd (not-suc-le-zero h)
  floors n (r ∷ rest) t zero h = subst⁻¹ (λ (m : ℕ). Floor (at m) r) (add-zero n) (is_floor_lem (at n) r (and_left (is_floor (at n) r) (keeps_rule top bottom (suc n) rest) t))
  floors n (r ∷ rest) t (suc k) h =
      subst (λ (m : ℕ). Floor (at m) (get_or rest k 0)) (suc-add n k ∙ sym (add-suc n k))
      (floors (suc n) rest (and_right (is_floor (at n) r) (keeps_rule top bottom (suc n) rest) t) k (le_of_suc-le-suc h))

  pub entry_root : (xs : List ℕ) → keeps_rule top bottom 1 xs ≡ true → (k n : ℕ) → k < length xs → 1 + k ≡ n → get_or xs k 0 ≡ scaled_root (at n)
  entry_root xs t k n h e = one_floor (at (1 + k)) (get_or xs k 0) (floors 1 xs t k h) ∙ ap (λ (m : ℕ). scaled_root (at m)) e

  pub zero_root : (xs : List ℕ) → keeps_rule top bottom 1 xs ≡ true → 0 < length xs → (n : ℕ) → 0 ≡ n → 0 ≡ scaled_root (at n)
  zero_root xs t h n e =
      let first : 0 < bottom = bottom_positive (floors 1 xs t 0 h) in
      let none : Floor (at 0) 0 = record { low = omega arith; next = omega arith } in
      one_floor (at 0) 0 none ∙ ap (λ (m : ℕ). scaled_root (at m)) e
