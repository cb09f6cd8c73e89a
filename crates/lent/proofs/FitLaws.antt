-- What is absent, or there and fits (specs/CompoundWords, `fits_where`), by the word r that says so. Assumes nothing.
use mathlib.Core.Path.{◌≡◌, sym, ap, ◌∙◌}
use mathlib.Core.Bool.{Bool, true, false, cond}
use mathlib.Core.List.{List}
use Prim.Native.Nat.{ℕ}
use borrow.Author.Tests.{eq-eqb, ne_eqb}
use lib.Dec.{eqb}
use Rattle.answers.specs.Conditions.{all}
use Rattle.answers.proofs.Conditions.{cond_ends, cond_goes}
use Rattle.lent.specs.CompoundWords.{fits_where}

module _ {r there : ℕ} (e : r ≡ there) where
  pub is_there : r ≡ 1 → eqb there 1 ≡ true
  is_there h = ap (λ (n : ℕ). eqb n 1) (sym e) ∙ eq-eqb r 1 h

  pub not_there : (r ≡ 1 → ⊥) → eqb there 1 ≡ false
  not_there h = ap (λ (n : ℕ). eqb n 1) (sym e) ∙ ne_eqb r 1 h

module _ {r there : ℕ} (fits : List Bool) (e : r ≡ there) where
  pub where_other : (r ≡ 1 → ⊥) → eqb r 0 ≡ fits_where there fits
  where_other h = cond_goes _ _ _ _ (not_there e h) (ap (λ (n : ℕ). eqb n 0) e)

  pub where_there : r ≡ 1 → {z : Bool} → z ≡ all fits → z ≡ fits_where there fits
  where_there h f = cond_ends _ _ _ _ (is_there e h) f

  pub where_fits : r ≡ 1 → fits_where there fits ≡ true → all fits ≡ true
  where_fits h f = ap (λ (b : Bool). cond b (all fits) (eqb there 0)) (sym (is_there e h)) ∙ f
