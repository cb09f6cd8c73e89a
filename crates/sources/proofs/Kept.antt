-- A table with a place put in: its held places, its rest, and the rules. Assumes nothing.
use mathlib.Core.Path.{◌≡◌, refl, ap, ◌∙◌}
use mathlib.Core.Bool.{Bool, true, false, cond, ◌&&◌}
use mathlib.Core.List.{List, [], ◌∷◌, ◌++◌, map, append-nil}
use Prim.Native.Nat.{ℕ, zero, suc, ◌+◌, ◌-◌, ◌≤◌, ◌<◌}
use native.Mathlib.Omega.{arith}
use borrow.Author.Tests.{le-leb, leb-true, leb-false, eqb-false}
use lib.Dec.{leb, eqb}
use lib.ListN.{length, take}
use lib.Seq.{take-append-add}
use Rattle.answers.specs.Conditions.{all}
use Rattle.answers.proofs.Conditions.{and_left, and_right, all_true}
use Rattle.sources.specs.declared.Place.{Place}
use Rattle.sources.specs.Places.{held, empty, sound_place, held_of, rest_of}
use Rattle.sources.specs.Rules.{most_places, rising, rules}
use Rattle.sources.specs.Stands.{put, new_to, with_place}
use Rattle.sources.specs.Answers.{full}
use Rattle.sources.proofs.Held.{fresh_unheld}
use Rattle.sources.proofs.Fronts.{front_le}
use Rattle.sources.proofs.Checking.{Kept, kept_rises, kept_empties}
use Rattle.sources.proofs.Sorted.{rising_put, all_put, put_count}
use Rattle.sources.proofs.Loaded.{with_long}

-- ---- held places in front of places that are not

pub all_held : (ps : List Place) → all (map held (held_of ps)) ≡ true
unfolding held_of
all_held [] = refl
all_held (p ∷ ps) = go (held p) refl (all_held ps)
  where
    go : (b : Bool) → held p ≡ b → all (map held (held_of ps)) ≡ true → all (map held (cond b (p ∷ held_of ps) [])) ≡ true
    go true e h = rw (e, h)
    go false e h = refl

module _ (rest : List Place) where
  front_of_lem : (ps : List Place) → all (map held ps) ≡ true → held_of (ps ++ rest) ≡ ps ++ held_of rest
  unfolding held_of
  front_of_lem [] h = refl
  front_of_lem (p ∷ ps) h =
      rw (and_left (held p) (all (map held ps)) h) (ap (λ (l : List Place). p ∷ l) (front_of_lem ps (and_right (held p) (all (map held ps)) h)))

  rest_of_lem : (ps : List Place) → all (map held ps) ≡ true → rest_of (ps ++ rest) ≡ rest_of rest
  unfolding rest_of
  rest_of_lem [] h = refl
  rest_of_lem (p ∷ ps) h = rw (and_left (held p) (all (map held ps)) h) (rest_of_lem ps (and_right (held p) (all (map held ps)) h))

empty_unheld : (p : Place) → empty p ≡ true → held p ≡ false
empty_unheld p e = fresh_unheld p (and_right (eqb p.ssrc 0) _ e)

empties_front : (ps : List Place) → all (map empty ps) ≡ true → held_of ps ≡ []
unfolding held_of
empties_front [] h = refl
empties_front (p ∷ ps) h = rw (empty_unheld p (and_left (empty p) (all (map empty ps)) h))

empties_rest : (ps : List Place) → all (map empty ps) ≡ true → rest_of ps ≡ ps
unfolding rest_of
empties_rest [] h = refl
empties_rest (p ∷ ps) h = rw (empty_unheld p (and_left (empty p) (all (map empty ps)) h))

all_take : (f : Place → Bool) (n : ℕ) (ps : List Place) → all (map f ps) ≡ true → all (map f (take n ps)) ≡ true
all_take f zero ps h = refl
all_take f (suc n) [] h = refl
all_take f (suc n) (p ∷ ps) h = rw (and_left (f p) (all (map f ps)) h) (all_take f n ps (and_right (f p) (all (map f ps)) h))

-- ---- a place put in, where there is room

module _ (p : Place) (ps : List Place) (good : Kept ps) (is : held p ≡ true) (room : (new_to p.ssrc ps && full ps) ≡ false) where
  abbrev new : List Place
  new = put p (held_of ps)

  abbrev left : ℕ
  left = length ps - length new

  rises : rising 0 (held_of ps) ≡ true
  rises = kept_rises ps good.ruled

  pub fits : length new ≤ length ps
  fits = go (new_to p.ssrc ps) (put_count p (held_of ps) 0 rises) room
    where
      go : (b : Bool) → length new ≡ length (held_of ps) + cond b 1 0 → (b && full ps) ≡ false → length new ≤ length ps
      go false e r = omega (arith, front_le ps)
      go true e r =
          let n = eqb-false (length (held_of ps)) (length ps) r in
          let l : length (held_of ps) < length ps = strictly (length (held_of ps)) (length ps) (front_le ps) n in
          omega arith
        where
          strictly : (a b : ℕ) → a ≤ b → (a ≡ b → ⊥) → a < b
          strictly a b h n = test (leb (a + 1) b) refl
            where
              test : (t : Bool) → leb (a + 1) b ≡ t → a < b
              test true e = let g = leb-true (a + 1) b e in omega arith
              test false e = absurd (n (let g = leb-false (a + 1) b e in omega arith))

  is_now : with_place p ps ≡ new ++ take left (rest_of ps)
  unfolding with_place
  is_now =
      let h = fits in
      let e : length ps ≡ length new + left = omega arith in
      ap (λ (n : ℕ). take n (new ++ rest_of ps)) e ∙ take-append-add new (rest_of ps) left

  all_new : all (map held new) ≡ true
  all_new = all_put held p (held_of ps) is (all_held ps)

  empties : all (map empty (take left (rest_of ps))) ≡ true
  empties = all_take empty left (rest_of ps) (kept_empties ps good.ruled)

  pub held_now : held_of (with_place p ps) ≡ new
  held_now =
      ap held_of is_now ∙ front_of_lem (take left (rest_of ps)) new all_new ∙ ap (λ (l : List Place). new ++ l) (empties_front (take left (rest_of ps)) empties) ∙ append-nil new

  pub rest_now : rest_of (with_place p ps) ≡ take left (rest_of ps)
  rest_now = ap rest_of is_now ∙ rest_of_lem (take left (rest_of ps)) new all_new ∙ empties_rest (take left (rest_of ps)) empties

  pub kept_now : sound_place p ≡ true → Kept (with_place p ps)
  kept_now s = record {
    ruled =
        rw (
          le-leb (length (with_place p ps)) most_places (let few = leb-true (length ps) most_places (all_true (rules ps) 0 good.ruled) in omega (arith, with_long p ps)),
          held_now,
          rising_put 0 p (held_of ps) (omega arith) rises,
          rest_now,
          empties,
        );
    sounds = rw held_now (all_put sound_place p (held_of ps) s good.sounds);
  }
