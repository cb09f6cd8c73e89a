-- Where an SSRC stands among lines, and what is found, renewed and added there. Assumes nothing.
use Rattle.std.specs.Prelude.{Some, None}
use mathlib.Core.Path.{◌≡◌, refl, ap}
use mathlib.Core.Bool.{Bool, true, false, cond}
use mathlib.Core.List.{List, [], ◌∷◌, ◌++◌}
use Prim.Native.Nat.{ℕ, suc, ◌≤◌, ◌<◌}
use native.Mathlib.Omega.{arith}
use borrow.Author.Tests.{eq-eqb, ne_eqb, lt-ltb, le-ltb}
use lib.Dec.{eqb, ltb}
use lib.ListN.{length, take, drop, get_or, set}
use Rattle.mixed.specs.Places.{found_by, renewed_by, added_by, place_by, lower_by}

module _ {A : Type 0} (ssrc_of : A → ℕ) where
  -- ---- a turn of the loops

  module _ (ssrc : ℕ) (l : A) (ls : List A) where
    pub place_ends : ssrc_of l ≡ ssrc → place_by ssrc_of ssrc (l ∷ ls) ≡ 0
    unfolding place_by
    place_ends e = rw (eq-eqb (ssrc_of l) ssrc e)

    pub place_goes : (ssrc_of l ≡ ssrc → ⊥) → place_by ssrc_of ssrc (l ∷ ls) ≡ suc (place_by ssrc_of ssrc ls)
    unfolding place_by
    place_goes e = rw (ne_eqb (ssrc_of l) ssrc e)

    pub lower_ends : ssrc ≤ ssrc_of l → lower_by ssrc_of ssrc (l ∷ ls) ≡ 0
    unfolding lower_by
    lower_ends h = rw (le-ltb (ssrc_of l) ssrc h)

    pub lower_goes : ssrc_of l < ssrc → lower_by ssrc_of ssrc (l ∷ ls) ≡ suc (lower_by ssrc_of ssrc ls)
    unfolding lower_by
    lower_goes h = rw (lt-ltb (ssrc_of l) ssrc h)

  pub place_none : (ssrc : ℕ) → place_by ssrc_of ssrc [] ≡ 0
  unfolding place_by
  place_none ssrc = refl

  pub lower_none : (ssrc : ℕ) → lower_by ssrc_of ssrc [] ≡ 0
  unfolding lower_by
  lower_none ssrc = refl

  -- ---- what is found

  pub found_none : (ssrc : ℕ) (ls : List A) → length ls ≤ place_by ssrc_of ssrc ls → found_by ssrc_of ssrc ls ≡ None
  unfolding place_by found_by
  found_none ssrc [] h = refl
  found_none ssrc (l ∷ ls) h = go (found_none ssrc ls) (eqb (ssrc_of l) ssrc) h
    where
      go : (length ls ≤ place_by ssrc_of ssrc ls → found_by ssrc_of ssrc ls ≡ None) → (b : Bool) → suc (length ls) ≤ cond b 0 (suc (place_by ssrc_of ssrc ls))
          → cond b (Some l) (found_by ssrc_of ssrc ls) ≡ None
      go more true h = absurd (omega arith)
      go more false h = more (omega arith)

  pub found_there : (ssrc : ℕ) (d : A) (ls : List A) → place_by ssrc_of ssrc ls < length ls → found_by ssrc_of ssrc ls ≡ Some (get_or ls (place_by ssrc_of ssrc ls) d)
  unfolding place_by found_by
  found_there ssrc d [] h = absurd (omega arith)
  found_there ssrc d (l ∷ ls) h = go (found_there ssrc d ls) (eqb (ssrc_of l) ssrc) h
    where
      go : (place_by ssrc_of ssrc ls < length ls → found_by ssrc_of ssrc ls ≡ Some (get_or ls (place_by ssrc_of ssrc ls) d))
          → (b : Bool) → cond b 0 (suc (place_by ssrc_of ssrc ls)) < suc (length ls)
          → cond b (Some l) (found_by ssrc_of ssrc ls) ≡ Some (get_or (l ∷ ls) (cond b 0 (suc (place_by ssrc_of ssrc ls))) d)
      go more true h = refl
      go more false h = more (omega arith)

  -- ---- what is stored

  module _ (new : A) where
    pub renewed_at : (ls : List A) → renewed_by ssrc_of new ls ≡ set ls (place_by ssrc_of (ssrc_of new) ls) new
    unfolding place_by renewed_by
    renewed_at [] = refl
    renewed_at (l ∷ ls) = go (renewed_at ls) (eqb (ssrc_of l) (ssrc_of new))
      where
        go : renewed_by ssrc_of new ls ≡ set ls (place_by ssrc_of (ssrc_of new) ls) new → (b : Bool)
            → cond b (new ∷ ls) (l ∷ renewed_by ssrc_of new ls) ≡ set (l ∷ ls) (cond b 0 (suc (place_by ssrc_of (ssrc_of new) ls))) new
        go more true = refl
        go more false = ap (λ (t : List A). l ∷ t) more

    pub added_at : (ls : List A) → added_by ssrc_of new ls ≡ take (lower_by ssrc_of (ssrc_of new) ls) ls ++ new ∷ drop (lower_by ssrc_of (ssrc_of new) ls) ls
    unfolding lower_by added_by
    added_at [] = refl
    added_at (l ∷ ls) = go (added_at ls) (ltb (ssrc_of l) (ssrc_of new))
      where
        go : added_by ssrc_of new ls ≡ take (lower_by ssrc_of (ssrc_of new) ls) ls ++ new ∷ drop (lower_by ssrc_of (ssrc_of new) ls) ls → (b : Bool)
            → cond b (l ∷ added_by ssrc_of new ls) (new ∷ l ∷ ls)
            ≡ take (cond b (suc (lower_by ssrc_of (ssrc_of new) ls)) 0) (l ∷ ls) ++ new ∷ drop (cond b (suc (lower_by ssrc_of (ssrc_of new) ls)) 0) (l ∷ ls)
        go more true = ap (λ (t : List A). l ∷ t) more
        go more false = refl

    pub length-added : (ls : List A) → length (added_by ssrc_of new ls) ≡ suc (length ls)
    unfolding added_by
    length-added [] = refl
    length-added (l ∷ ls) = go (length-added ls) (ltb (ssrc_of l) (ssrc_of new))
      where
        go : length (added_by ssrc_of new ls) ≡ suc (length ls) → (b : Bool) → length (cond b (l ∷ added_by ssrc_of new ls) (new ∷ l ∷ ls)) ≡ suc (suc (length ls))
        go more true = ap suc more
        go more false = refl
