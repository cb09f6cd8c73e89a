-- Laws of the tallies of a run: as the loops take them, one by one, and that they stay sound. Assumes nothing.
use mathlib.Core.Path.{◌≡◌, refl, ap, ◌∙◌}
use mathlib.Core.Bool.{Bool, true, false, cond, ◌&&◌}
use mathlib.Core.List.{List, [], ◌∷◌, map}
use Prim.Native.Nat.{ℕ, zero, suc, ◌+◌, ◌-◌, ◌≤◌, ◌<◌, min}
use native.Mathlib.Numerals.{add-one}
use native.Mathlib.Omega.{arith}
use borrow.Author.Tests.{le-leb}
use lib.ListN.{length, get_or, set, drop, length-set, drop_of_length-le}
use lib.Seq.{drop-cons}
use Rattle.answers.specs.Conditions.{all}
use Rattle.answers.proofs.Conditions.{and_left, and_right}
use Rattle.source.specs.Totals.{most_told}
use Rattle.sources.specs.declared.Stand.{Stand}
use Rattle.sources.specs.declared.runs.Tally.{Tally}
use Rattle.sources.specs.Tallies.{no_tally, raised, sound_tally, shifted, tallied}

abbrev pub all_tallied : List Tally → Bool
all_tallied ts = all (map sound_tally ts)

-- ---- one by one

module _ (ts : List Tally) (i : ℕ) where
  pub tallies_turn : i < length ts → all_tallied (drop i ts) ≡ (sound_tally (get_or ts i no_tally) && all_tallied (drop (i + 1) ts))
  tallies_turn h = rw (add-one i, drop-cons ts i no_tally h)

  pub tallies_done : length ts ≤ i → all_tallied (drop i ts) ≡ true
  tallies_done h = ap all_tallied (drop_of_length-le ts {i = i} h)

module _ (i n : ℕ) (t : Tally) (ts : List Tally) where
  pub shifted_turn : i < n → shifted i (n - i) t ts ≡ shifted (i + 1) (n - (i + 1)) (get_or ts i no_tally) (set ts i t)
  unfolding shifted
  shifted_turn h = let e : n - i ≡ suc (n - suc i) = omega arith in rw (add-one i, e)

  pub shifted_done : n ≤ i → shifted i (n - i) t ts ≡ ts
  unfolding shifted
  shifted_done h = let e : n - i ≡ 0 = omega arith in rw e

-- ---- as many

pub length-shifted : (i k : ℕ) (t : Tally) (ts : List Tally) → length (shifted i k t ts) ≡ length ts
unfolding shifted
length-shifted i zero t ts = refl
length-shifted i (suc k) t ts = length-shifted (suc i) k (get_or ts i no_tally) (set ts i t) ∙ length-set ts i t

pub length-tallied : (s : Stand) (jumps restarts : ℕ) (ts : List Tally) → length (tallied s jumps restarts ts) ≡ length ts
unfolding tallied
length-tallied s jumps restarts ts = go s.new
  where
    go : (b : Bool) → length (cond b (shifted s.at (16 - s.at) (raised no_tally jumps restarts) ts) (set ts s.at (raised (get_or ts s.at no_tally) jumps restarts))) ≡ length ts
    go true = length-shifted s.at (16 - s.at) (raised no_tally jumps restarts) ts
    go false = length-set ts s.at (raised (get_or ts s.at no_tally) jumps restarts)

-- ---- they stay sound

pub raised_sound : (t : Tally) (jumps restarts : ℕ) → sound_tally (raised t jumps restarts) ≡ true
raised_sound t jumps restarts = rw (le-leb (min (t.jumped + jumps) most_told) most_told (omega arith), le-leb (min (t.restarts + restarts) most_told) most_told (omega arith))

pub set-sound : (ts : List Tally) (i : ℕ) (t : Tally) → sound_tally t ≡ true → all_tallied ts ≡ true → all_tallied (set ts i t) ≡ true
set-sound [] i t h a = refl
set-sound (u ∷ ts) zero t h a = rw h (and_right (sound_tally u) (all_tallied ts) a)
set-sound (u ∷ ts) (suc i) t h a = rw (and_left (sound_tally u) (all_tallied ts) a) (set-sound ts i t h (and_right (sound_tally u) (all_tallied ts) a))

pub get_sound : (ts : List Tally) (i : ℕ) → all_tallied ts ≡ true → sound_tally (get_or ts i no_tally) ≡ true
get_sound [] i a = refl
get_sound (u ∷ ts) zero a = and_left (sound_tally u) (all_tallied ts) a
get_sound (u ∷ ts) (suc i) a = get_sound ts i (and_right (sound_tally u) (all_tallied ts) a)

shifted_sound : (i k : ℕ) (t : Tally) (ts : List Tally) → sound_tally t ≡ true → all_tallied ts ≡ true → all_tallied (shifted i k t ts) ≡ true
unfolding shifted
shifted_sound i zero t ts h a = a
shifted_sound i (suc k) t ts h a = shifted_sound (suc i) k (get_or ts i no_tally) (set ts i t) (get_sound ts i a) (set-sound ts i t h a)

pub tallied_sound : (s : Stand) (jumps restarts : ℕ) (ts : List Tally) → all_tallied ts ≡ true → all_tallied (tallied s jumps restarts ts) ≡ true
unfolding tallied
tallied_sound s jumps restarts ts a = go s.new
  where
    go : (b : Bool) → all_tallied (cond b (shifted s.at (16 - s.at) (raised no_tally jumps restarts) ts) (set ts s.at (raised (get_or ts s.at no_tally) jumps restarts))) ≡ true
    go true = shifted_sound s.at (16 - s.at) (raised no_tally jumps restarts) ts (raised_sound no_tally jumps restarts) a
    go false = set-sound ts s.at (raised (get_or ts s.at no_tally) jumps restarts) (raised_sound (get_or ts s.at no_tally) jumps restarts) a

-- ---- behind the last

pub set_beyond : (ts : List Tally) (i : ℕ) (t : Tally) → length ts ≤ i → set ts i t ≡ ts
set_beyond [] i t h = refl
set_beyond (u ∷ ts) zero t h = absurd (omega arith)
set_beyond (u ∷ ts) (suc i) t h = ap (λ (us : List Tally). u ∷ us) (set_beyond ts i t (omega arith))
