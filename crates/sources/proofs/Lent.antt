-- Laws of a table taken from a slice, place by place. Assumes nothing.
use mathlib.Core.Path.{◌≡◌, refl, ap, ◌∙◌}
use mathlib.Core.Bool.{Bool, true, false, cond}
use mathlib.Core.List.{List, ◌++◌}
use Prim.Native.Nat.{ℕ, ◌+◌, ◌≤◌, ◌<◌}
use native.Mathlib.Numerals.{add-one}
use native.Mathlib.Nat.{zero-add}
use native.Mathlib.Omega.{arith}
use borrow.Author.Tests.{ltb-false}
use lib.Dec.{ltb}
use lib.ListN.{length, get_or, set, take, drop, replicate}
use lib.Seq.{sets, sets-eq, take-length}
use Rattle.sources.specs.declared.Place.{Place}
use Rattle.sources.specs.declared.Table.{Table}
use Rattle.sources.specs.Places.{empty_place}
use Rattle.sources.specs.Rules.{most_places}
use Rattle.sources.specs.Tables.{empty_table, with_lent, loaded}
use Rattle.sources.specs.Lending.{in_use}
use Rattle.sources.proofs.Turns.{one_left, none_left}

-- no more than there are, and no more than 16
pub in_use_le : (k : ℕ) → in_use k ≤ k
unfolding in_use
in_use_le k = go (ltb most_places k)
  where
    go : (b : Bool) → cond b 0 k ≤ k
    go true = omega arith
    go false = omega arith

pub in_use_most : (k : ℕ) → in_use k ≤ 16
unfolding in_use
in_use_most k = go (ltb most_places k) refl
  where
    go : (b : Bool) → ltb most_places k ≡ b → cond b 0 k ≤ 16
    go true e = omega arith
    go false e = ltb-false most_places k e

-- ---- a turn: what is left to store loses its first place

module _ (xs : List Place) (n i : ℕ) (old : List Place) where
  pub sets-place : i < n → n ≤ length xs → sets (set old i (get_or xs i empty_place)) (i + 1) (drop (i + 1) (take n xs)) ≡ sets old i (drop i (take n xs))
  sets-place h k = rw (one_left xs n i h k, add-one i)

  pub sets-none : n ≤ i → sets old i (drop i (take n xs)) ≡ old
  sets-none h = rw (none_left xs n i h)

-- ---- the whole

pub loaded_is : (ps : List Place) → record { places = sets (replicate 16 empty_place) 0 (take (in_use (length ps)) ps); count = length ps } ≡ loaded ps
unfolding loaded in_use
loaded_is ps = go (ltb most_places (length ps)) refl
  where
    go : (b : Bool) → ltb most_places (length ps) ≡ b
        → ◌≡◌ {A = Table} (record { places = sets (replicate 16 empty_place) 0 (take (cond b 0 (length ps)) ps); count = length ps })
        (cond b (empty_table (length ps)) (with_lent (empty_table (length ps)) ps))
    go true e = refl
    go false e =
        let few = ltb-false most_places (length ps) e in
        λ i. record {
          places = (ap (sets (replicate 16 empty_place) 0) (take-length ps) ∙ sets-eq ps (replicate 16 empty_place) 0 (omega arith) ∙ ap (λ (k : ℕ). ps ++ drop k (replicate 16 empty_place)) (zero-add (length ps))) i;
          count = length ps;
        }
