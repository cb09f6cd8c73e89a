-- Laws of a table's places as the loops take and store them, 11 words each. Assumes nothing.
use mathlib.Core.Path.{◌≡◌, refl, sym, ap, ◌∙◌}
use mathlib.Core.Bool.{true, false}
use mathlib.Core.List.{List, [], ◌∷◌, ◌++◌}
use Prim.Native.Nat.{ℕ, zero, suc, ◌+◌, ◌-◌, ◌*◌, ◌≤◌, ◌<◌}
use native.Mathlib.Numerals.{add-one}
use native.Mathlib.Omega.{arith}
use borrow.Author.Tests.{lt-ltb, le-ltb}
use lib.ListN.{length, get_or, set, take, drop, replicate, length-append, drop_of_length-le}
use lib.Seq.{sets, take-length, drop-cons, drop-drop, get_or-drop}
use Rattle.answers.proofs.Stores.{sets-step}
use Rattle.sources.specs.declared.Place.{Place}
use Rattle.sources.specs.declared.Table.{Table}
use Rattle.sources.specs.Places.{empty_place}
use Rattle.sources.specs.Lending.{in_use}
use Rattle.sources.specs.Tables as table
use Rattle.sources.proofs.Lent.{loaded_is}
use Rattle.lent.specs.SourceWords.{source_words}
use Rattle.lent.specs.TableWords.{place_words, table_words, places_by, each_below}

-- ---- lengths

pub length-places_by : (read : List ℕ → Place) (n : ℕ) (words : List ℕ) → length (places_by read n words) ≡ n
unfolding places_by
length-places_by read zero words = refl
length-places_by read (suc n) words = ap suc (length-places_by read n (drop 11 words))

pub length-place : (p : Place) → length (place_words p) ≡ 11
unfolding source_words
length-place p = refl

pub length-table : (ps : List Place) → length (table_words ps) ≡ 11 * length ps
unfolding table_words
length-table [] = refl
length-table (p ∷ ps) = length-append (place_words p) (table_words ps) ∙ omega (arith, length-place p, length-table ps)

-- ---- reads

module _ (n i : ℕ) (words : List ℕ) (h : i < n) where
  fewer : n - i ≡ suc (n - (i + 1))
  fewer = omega arith

  behind : drop 11 (drop (11 * i) words) ≡ drop (11 * (i + 1)) words
  behind = let q : 11 * i + 11 ≡ 11 * (i + 1) = omega arith in drop-drop 11 (11 * i) words ∙ ap (λ (k : ℕ). drop k words) q

  -- a turn of a loop that takes n places
  pub take-turn : (read : List ℕ → Place) (xs : List Place)
      → sets (set xs i (read (drop (11 * i) words))) (i + 1) (places_by read (n - (i + 1)) (drop (11 * (i + 1)) words))
      ≡ sets xs i (places_by read (n - i) (drop (11 * i) words))
  unfolding places_by
  take-turn read xs = rw (fewer, behind, add-one i)

  -- a turn of a loop over word k of each place
  module _ (limit k : ℕ) where
    here : get_or (drop (11 * i) words) k 0 ≡ get_or words (11 * i + k) 0
    here = get_or-drop (11 * i) words k 0

    pub below_ends : limit ≤ get_or words (11 * i + k) 0 → each_below limit k (n - i) (drop (11 * i) words) ≡ false
    unfolding each_below
    below_ends g = rw (fewer, here, le-ltb (get_or words (11 * i + k) 0) limit g)

    pub below_goes : get_or words (11 * i + k) 0 < limit
        → each_below limit k (n - i) (drop (11 * i) words) ≡ each_below limit k (n - (i + 1)) (drop (11 * (i + 1)) words)
    unfolding each_below
    below_goes g = rw (fewer, here, lt-ltb (get_or words (11 * i + k) 0) limit g, behind)

pub none_below : (limit k n i : ℕ) (words : List ℕ) → n ≤ i → each_below limit k (n - i) words ≡ true
unfolding each_below
none_below limit k n i words h = let e : n - i ≡ 0 = omega arith in rw e

-- the table with all places taken
pub all_taken : (read : List ℕ → Place) (n : ℕ) (words : List ℕ) (t : Table) → n ≤ 16 → t.count ≡ n → t.places ≡ sets (replicate 16 empty_place) 0 (places_by read n words)
    → t ≡ table.loaded (places_by read n words)
unfolding in_use
all_taken read n words t h c e =
    let ps = places_by read n words in
    let long = length-places_by read n words in
    let all : take (in_use (length ps)) ps ≡ ps = rw (le-ltb 16 (length ps) (omega arith)) (take-length ps) in
    (λ i. record { places = (e ∙ ap (sets (replicate 16 empty_place) 0) (sym all)) i; count = (c ∙ sym long) i }) ∙ loaded_is ps

-- ---- stores

module _ (ps : List Place) (i : ℕ) (old : List ℕ) where
  -- a turn of a loop that stores the places
  pub store_turn : {out : List ℕ} → i < length ps → out ≡ sets old (11 * i) (place_words (get_or ps i empty_place))
      → sets out (11 * (i + 1)) (table_words (drop (i + 1) ps)) ≡ sets old (11 * i) (table_words (drop i ps))
  unfolding table_words
  store_turn h e =
      let p = get_or ps i empty_place in
      let next : 11 * (i + 1) ≡ 11 * i + length (place_words p) = omega (arith, length-place p) in
      let left : table_words (drop i ps) ≡ place_words p ++ table_words (drop (i + 1) ps) = rw add-one (ap table_words (drop-cons ps i empty_place h)) in
      sets-step old (11 * i) (place_words p) (table_words (drop (i + 1) ps)) left e next

  pub store_done : length ps ≤ i → old ≡ sets old (11 * i) (table_words (drop i ps))
  unfolding table_words
  store_done h = rw (drop_of_length-le ps {i = i} h)
