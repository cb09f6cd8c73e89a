-- Laws of the places of a table as the loops take them, one by one. Assumes nothing.
use mathlib.Core.Path.{◌≡◌, sym, ◌∙◌}
use mathlib.Core.List.{List, [], ◌∷◌, map}
use Prim.Native.Nat.{ℕ, ◌+◌, ◌≤◌, ◌<◌}
use native.Mathlib.Numerals.{add-one}
use native.Mathlib.Omega.{arith}
use lib.ListN.{length, length-map, get_or, take, drop, length-take, drop_of_length-le}
use lib.Seq.{drop-cons, get_or-take}
use Rattle.sources.specs.declared.Place.{Place}
use Rattle.sources.specs.Places.{empty_place}

-- an array of structs is known by the list of their values
pub length-mapped : (X Y : Type 0) (f : X → Y) (l : List X) (n : ℕ) → length (map f l) ≡ n → length l ≡ n
length-mapped X Y f l n p = sym (length-map l f) ∙ p

module _ (xs : List Place) (n i : ℕ) where
  -- the places from i on, of the first n
  abbrev left : List Place
  left = drop i (take n xs)

  abbrev rest : List Place
  rest = drop (i + 1) (take n xs)

  abbrev here : Place
  here = get_or xs i empty_place

  pub none_left : n ≤ i → left ≡ []
  none_left h = drop_of_length-le (take n xs) {i = i} (simp length-take (omega arith))

  module _ (h : i < n) (k : n ≤ length xs) where
    pub one_left : left ≡ here ∷ rest
    one_left =
        let l : i < length (take n xs) = simp length-take (omega arith) in
        rw (add-one i, drop-cons (take n xs) i empty_place, get_or-take n xs i empty_place)
