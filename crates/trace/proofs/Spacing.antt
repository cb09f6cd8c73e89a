-- Laws of retired bytes and of a spaced label. Assumes nothing.
use Rattle.std.specs.Prelude.{None}
use Rattle.std.proofs.Common.{◌≡◌, ℕ, suc, ◌+◌, ◌<◌, ◌≤◌, Bool, true, false, cond, ◌⊎◌, List, [], ◌∷◌, length, get_or, drop, set, sym, refl, ap, ◌∙◌, ap₂, inl, inr, zero-add, add-one, arith, drop_of_length-le, drop-cons, ne_eqb}
use lib.Seq.{sets}
use Rattle.answers.proofs.Conditions.{and_left, and_right}
use Rattle.trace.specs.Contents.{every, label_byte, label_ok}
use Rattle.trace.specs.Retired.{retired, retired_in, spaced_byte, spaced_label}
use Rattle.trace.specs.Writing.{label_fault}
use Rattle.trace.proofs.Tallies.{tally}
use Rattle.trace.proofs.Decisions.{label_rest, label_short, label_bytes, label_taken}

-- ---- a byte

pub retired_line : (c : ℕ) → (c ≡ 10) ⊎ (c ≡ 13) → retired c ≡ true
unfolding retired
retired_line c (inl e) = rw e
retired_line c (inr e) = rw e

pub retired_other : (c : ℕ) → ((c ≡ 10) ⊎ (c ≡ 13) → ⊥) → retired c ≡ false
unfolding retired
retired_other c h = rw (ne_eqb c 10 (λ e. h (inl e)), ne_eqb c 13 (λ e. h (inr e)))

module _ (c : ℕ) where
  pub space_for : retired c ≡ true → spaced_byte c ≡ 32
  unfolding spaced_byte
  space_for e = rw e

  pub byte_kept : retired c ≡ false → spaced_byte c ≡ c
  unfolding spaced_byte
  byte_kept e = rw e

  -- no retired byte is left
  spaced_retired : retired (spaced_byte c) ≡ false
  unfolding retired
  spaced_retired = go (retired c) refl
    where
      go : (t : Bool) → retired c ≡ t → retired (spaced_byte c) ≡ false
      go true e = rw (space_for e)
      go false e = ap retired (byte_kept e) ∙ e

  -- and a byte that a label may have stays one
  spaced_byte_allowed : label_byte c ≡ true → label_byte (spaced_byte c) ≡ true
  unfolding label_byte
  spaced_byte_allowed h = go (retired c) refl
    where
      go : (t : Bool) → retired c ≡ t → label_byte (spaced_byte c) ≡ true
      go true e = rw (space_for e)
      go false e = ap label_byte (byte_kept e) ∙ h

-- ---- a label

pub length-spaced : (s : List ℕ) → length (spaced_label s) ≡ length s
unfolding spaced_label
length-spaced [] = refl
length-spaced (c ∷ s) = ap suc (length-spaced s)

pub none_left : (s : List ℕ) → retired_in (spaced_label s) ≡ 0
unfolding retired_in spaced_label
none_left [] = refl
none_left (c ∷ s) = rw (spaced_retired c, zero-add (retired_in (spaced_label s))) (none_left s)

-- a label with no retired byte stays as it is
pub spaced_same : (s : List ℕ) → retired_in s ≡ 0 → spaced_label s ≡ s
unfolding retired_in spaced_label
spaced_same [] e = refl
spaced_same (c ∷ s) e = go (retired c) refl e (λ z. spaced_same s z)
  where
    go : (t : Bool) → retired c ≡ t → cond t 1 0 + retired_in s ≡ 0 → (retired_in s ≡ 0 → spaced_label s ≡ s) → spaced_byte c ∷ spaced_label s ≡ c ∷ s
    go true q e rest = absurd (omega (arith, e))
    go false q e rest = ap₂ (λ (d : ℕ) (l : List ℕ). d ∷ l) (byte_kept c q) (rest (omega (arith, e)))

-- spaced twice
pub spaced_twice : (s : List ℕ) → spaced_label (spaced_label s) ≡ spaced_label s
spaced_twice s = spaced_same (spaced_label s) (none_left s)

pub spaced_allowed : (s : List ℕ) → every label_byte s ≡ true → every label_byte (spaced_label s) ≡ true
unfolding every spaced_label
spaced_allowed [] e = refl
spaced_allowed (c ∷ s) e =
    rw (spaced_byte_allowed c (and_left (label_byte c) (every label_byte s) e)) (spaced_allowed s (and_right (label_byte c) (every label_byte s) e))

-- a trace may have it, and the writer takes it
module _ (s : List ℕ) (ok : label_ok s ≡ true) where
  pub spaced_ok : label_ok (spaced_label s) ≡ true
  spaced_ok = sym (label_rest (spaced_label s) (omega (arith, length-spaced s, label_short s ok)) (sym (spaced_allowed s (label_bytes s ok))))

  pub spaced_taken : label_fault (spaced_label s) ≡ None
  spaced_taken = label_taken (spaced_label s) spaced_ok (none_left s)

-- ---- the number of retired bytes, as a loop adds it up

abbrev pub retired_of : ℕ → ℕ
retired_of c = cond (retired c) 1 0

pub retired_small : (t : Bool) → cond t 1 0 ≤ 1
retired_small true = omega arith
retired_small false = omega arith

pub retired_tally : (s : List ℕ) → tally retired_of s ≡ retired_in s
unfolding tally retired_in
retired_tally [] = refl
retired_tally (c ∷ s) = ap (λ (n : ℕ). retired_of c + n) (retired_tally s)

pub retired_few : (s : List ℕ) → retired_in s ≤ length s
unfolding retired_in
retired_few [] = omega arith
retired_few (c ∷ s) = omega (arith, retired_few s, retired_small (retired c))

-- ---- the spaced label, as a loop stores it

-- a turn: what is left to store loses its first byte
pub spaced_turn : (l : List ℕ) (i : ℕ) (s : List ℕ) (j : ℕ) → j < length s
    → sets (set l i (spaced_byte (get_or s j 0))) (i + 1) (spaced_label (drop (j + 1) s)) ≡ sets l i (spaced_label (drop j s))
unfolding spaced_label
spaced_turn l i s j h = rw (add-one i, add-one j, drop-cons s j 0)

-- and after the last turn nothing is left
pub spaced_done : (l : List ℕ) (i : ℕ) (s : List ℕ) (j : ℕ) → length s ≤ j → l ≡ sets l i (spaced_label (drop j s))
unfolding spaced_label
spaced_done l i s j h = rw (drop_of_length-le s h)
