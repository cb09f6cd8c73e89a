-- Lines that are held in two ways: what a block does to both is alike. Assumes nothing.
use Rattle.std.specs.Prelude.{Option, Some, None}
use mathlib.Core.Path.{◌≡◌, refl, ap}
use mathlib.Core.Bool.{Bool, true, false, cond}
use mathlib.Core.List.{List, [], ◌∷◌, map}
use Prim.Native.Nat.{ℕ}
use lib.Dec.{eqb, ltb}
use Rattle.mixed.specs.Places.{found_by, renewed_by, added_by}

module _ {A B : Type 0} (f : A → B) where
  abbrev pub mapped : Option A → Option B
  mapped None = None
  mapped (Some a) = Some (f a)

  module _ (p : A → ℕ) (q : B → ℕ) (same : (a : A) → q (f a) ≡ p a) where
    pub found_alike : (ssrc : ℕ) (ls : List A) → found_by q ssrc (map f ls) ≡ mapped (found_by p ssrc ls)
    unfolding found_by
    found_alike ssrc [] = refl
    found_alike ssrc (l ∷ ls) = rw same (go (eqb (p l) ssrc) (found_alike ssrc ls))
      where
        go : (t : Bool) → found_by q ssrc (map f ls) ≡ mapped (found_by p ssrc ls) → cond t (Some (f l)) (found_by q ssrc (map f ls)) ≡ mapped (cond t (Some l) (found_by p ssrc ls))
        go true e = refl
        go false e = e

    pub renewed_alike : (new : A) (ls : List A) → renewed_by q (f new) (map f ls) ≡ map f (renewed_by p new ls)
    unfolding renewed_by
    renewed_alike new [] = refl
    renewed_alike new (l ∷ ls) = rw (same l, same new) (go (eqb (p l) (p new)) (renewed_alike new ls))
      where
        go : (t : Bool) → renewed_by q (f new) (map f ls) ≡ map f (renewed_by p new ls)
            → cond t (f new ∷ map f ls) (f l ∷ renewed_by q (f new) (map f ls)) ≡ map f (cond t (new ∷ ls) (l ∷ renewed_by p new ls))
        go true e = refl
        go false e = ap (λ (ms : List B). f l ∷ ms) e

    pub added_alike : (new : A) (ls : List A) → added_by q (f new) (map f ls) ≡ map f (added_by p new ls)
    unfolding added_by
    added_alike new [] = refl
    added_alike new (l ∷ ls) = rw (same l, same new) (go (ltb (p l) (p new)) (added_alike new ls))
      where
        go : (t : Bool) → added_by q (f new) (map f ls) ≡ map f (added_by p new ls)
            → cond t (f l ∷ added_by q (f new) (map f ls)) (f new ∷ f l ∷ map f ls) ≡ map f (cond t (l ∷ added_by p new ls) (new ∷ l ∷ ls))
        go true e = ap (λ (ms : List B). f l ∷ ms) e
        go false e = refl
