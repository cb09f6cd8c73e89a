-- What a program's shifts do to a history, with a window's bits; and where the lowest bit of a word stands. Assumes nothing.
use mathlib.Core.Path.{◌≡◌, refl, sym, ap, ap₂, ◌∙◌}
use mathlib.Core.Bool.{Bool, true, false, ◌&&◌, ◌||◌, or-false, or-true, false≢true}
use Prim.Native.Nat.{ℕ, zero, suc, ◌+◌, ◌-◌, ◌*◌, ◌/◌, ◌%◌, ◌^◌, ◌≤◌, ◌<◌}
use native.Mathlib.Nat.{mod-lt, not-suc-le-zero, le_of_suc-le-suc}
use native.Mathlib.Decide.{dec_le}
use native.Mathlib.Omega.{arith}
use borrow.Author.Tests.{ne_eqb}
use lib.Bits.{bit_or, or_lt}
use lib.Count.{ones, ones-le, under, count_trailing_zeros}
use lib.Dec.{eqb, leb}
use lib.Pow.{pow_pos, shr_le}
use Rattle.source.specs.declared.History.{History}
use Rattle.source.specs.Places.{place, pack, history, marks, moved, added}
use Rattle.source.proofs.Rows.{place_low, place_next, pack_unique, marks_recent}
use Rattle.source.proofs.Shifts.{place_or, place_bit, place_mod, place_mul, place_div, place_above, words_are, near_older}
use Rattle.engine.specs.Settled.{lowest, row_with}
use Rattle.engine.proofs.Union.{ones-joined_le}

-- ---- the lowest bit of a word

-- none stands below it
pub trailing_clear : (n x i : ℕ) → i < count_trailing_zeros n x → place x i ≡ false
unfolding count_trailing_zeros
trailing_clear zero x i h = absurd (not-suc-le-zero h)
trailing_clear (suc n) x i h = go (x % 2) refl (trailing_clear n (x / 2)) i h
  where
    go : (r : ℕ) → x % 2 ≡ r → ((i : ℕ) → i < count_trailing_zeros n (x / 2) → place (x / 2) i ≡ false) → (i : ℕ) → i < under r (count_trailing_zeros n (x / 2)) → place x i ≡ false
    go zero e clear zero l = place_low x ∙ ap (λ (y : ℕ). eqb y 1) e
    go zero e clear (suc i) l = place_next x i ∙ clear i (le_of_suc-le-suc l)
    go (suc r) e clear i l = absurd (not-suc-le-zero l)

-- it stands at no bit that is clear
pub trailing_set : (n x : ℕ) → count_trailing_zeros n x < n → place x (count_trailing_zeros n x) ≡ true
unfolding count_trailing_zeros
trailing_set zero x h = absurd (not-suc-le-zero h)
trailing_set (suc n) x h = go (x % 2) refl (trailing_set n (x / 2)) h
  where
    go : (r : ℕ) → x % 2 ≡ r → (count_trailing_zeros n (x / 2) < n → place (x / 2) (count_trailing_zeros n (x / 2)) ≡ true) → under r (count_trailing_zeros n (x / 2)) < suc n
        → place x (under r (count_trailing_zeros n (x / 2))) ≡ true
    go zero e set l = place_next x (count_trailing_zeros n (x / 2)) ∙ set (le_of_suc-le-suc l)
    go (suc r) e set l = let one : x % 2 ≡ 1 = omega arith in place_low x ∙ ap (λ (y : ℕ). eqb y 1) one

-- and no higher than any that is set
pub trailing_most : (n x i : ℕ) → i < n → place x i ≡ true → count_trailing_zeros n x ≤ i
trailing_most n x i h e = go (dec_le (count_trailing_zeros n x) i)
  where
    go : Dec (count_trailing_zeros n x ≤ i) → count_trailing_zeros n x ≤ i
    go (yes l) = l
    go (no l) = absurd (false≢true (sym (trailing_clear n x i (omega arith)) ∙ e))

-- ---- with the bit of the highest number

module _ (bits : ℕ) where
  pub with_highest : (k : ℕ) → place (bit_or bits (2 ^ 40)) k ≡ (place bits k || eqb k 40)
  with_highest k = place_or bits (2 ^ 40) k ∙ ap (λ (t : Bool). place bits k || t) (place_bit 40 k)

  pub lowest_le : lowest bits ≤ 40
  lowest_le = trailing_most 64 (bit_or bits (2 ^ 40)) 40 (omega arith) (with_highest 40 ∙ or-true (place bits 40))

-- ---- the two words of a history

module _ (h : History) (fits-recent : h.recent < 2 ^ 64) (fits-older : h.older < 2 ^ 36) (bits : ℕ) (Fits-bits : bits < 2 ^ 64) where
  abbrev up : ℕ
  up = 40 - lowest bits

  up_small : up < 64
  up_small = omega arith

  old_place : (k : ℕ) → k < 64 → place (h.recent * 2 ^ up % 2 ^ 64) k ≡ moved up (marks h) k
  unfolding moved
  old_place k l =
      place_mod 64 (h.recent * 2 ^ up) k l ∙ place_mul up h.recent k ∙ ap (λ (t : Bool). leb up k && t) (sym (marks_recent h (k - up) (omega arith)))

  recent_place : (k : ℕ) → k < 64 → place (bit_or (h.recent * 2 ^ up % 2 ^ 64) (bits / 2 ^ lowest bits)) k ≡ row_with bits h k
  recent_place k l = place_or (h.recent * 2 ^ up % 2 ^ 64) (bits / 2 ^ lowest bits) k ∙ ap₂ ◌||◌ (old_place k l) (place_div (lowest bits) bits k)

  older_place : (k : ℕ) → k < 36 → place (bit_or (h.older * 2 ^ up % 2 ^ 64) (h.recent / 2 / 2 ^ (63 - up)) % 2 ^ 36) k ≡ row_with bits h (64 + k)
  unfolding added
  older_place k l =
      near_older h fits-recent fits-older up 0 up_small (omega arith) k l ∙ ap (λ (t : Bool). t || moved up (marks h) (64 + k)) (ne_eqb (64 + k) 0 (λ z. omega arith))
      ∙ sym (or-false (moved up (marks h) (64 + k))) ∙ ap (λ (t : Bool). moved up (marks h) (64 + k) || t) (sym (place_above 64 bits (lowest bits + (64 + k)) Fits-bits (omega arith)))

  recent_lt : bit_or (h.recent * 2 ^ up % 2 ^ 64) (bits / 2 ^ lowest bits) < 2 ^ 64
  recent_lt =
      let less : bits / 2 ^ lowest bits ≤ bits = shr_le bits (lowest bits) in
      or_lt 64 (h.recent * 2 ^ up % 2 ^ 64) (bits / 2 ^ lowest bits) (mod-lt (h.recent * 2 ^ up) (pow_pos 64)) (omega arith)

  pub shifted_words : ◌≡◌ {A = History}
      (record {
        recent = bit_or (h.recent * 2 ^ up % 2 ^ 64) (bits / 2 ^ lowest bits);
        older = bit_or (h.older * 2 ^ up % 2 ^ 64) (h.recent / 2 / 2 ^ (63 - up)) % 2 ^ 36;
      })
      (history (row_with bits h))
  shifted_words =
      words_are (bit_or (h.recent * 2 ^ up % 2 ^ 64) (bits / 2 ^ lowest bits)) (bit_or (h.older * 2 ^ up % 2 ^ 64) (h.recent / 2 / 2 ^ (63 - up)) % 2 ^ 36) (row_with bits h)
      recent_lt (mod-lt (bit_or (h.older * 2 ^ up % 2 ^ 64) (h.recent / 2 / 2 ^ (63 - up))) (pow_pos 36)) recent_place older_place

  old_is : h.recent * 2 ^ up % 2 ^ 64 ≡ pack 64 (moved up (marks h))
  old_is = pack_unique 64 (h.recent * 2 ^ up % 2 ^ 64) (moved up (marks h)) (mod-lt (h.recent * 2 ^ up) (pow_pos 64)) old_place

  new_is : bit_or (h.recent * 2 ^ up % 2 ^ 64) (bits / 2 ^ lowest bits) ≡ pack 64 (row_with bits h)
  new_is = pack_unique 64 (bit_or (h.recent * 2 ^ up % 2 ^ 64) (bits / 2 ^ lowest bits)) (row_with bits h) recent_lt recent_place

  -- how many places more
  pub more_is : ones (bit_or (h.recent * 2 ^ up % 2 ^ 64) (bits / 2 ^ lowest bits)) - ones (h.recent * 2 ^ up % 2 ^ 64)
      ≡ ones (pack 64 (row_with bits h)) - ones (pack 64 (moved up (marks h)))
  more_is = ap₂ (λ (x y : ℕ). ones x - ones y) new_is old_is

  pub more_fits : ones (h.recent * 2 ^ up % 2 ^ 64) ≤ ones (bit_or (h.recent * 2 ^ up % 2 ^ 64) (bits / 2 ^ lowest bits))
  more_fits = omega (arith, ap ones old_is, ap ones new_is, ones-joined_le 64 (moved up (marks h)) (λ k. place bits (lowest bits + k)))

  pub old_few : ones (h.recent * 2 ^ up % 2 ^ 64) ≤ 64
  old_few = ones-le 64 (h.recent * 2 ^ up % 2 ^ 64) (mod-lt (h.recent * 2 ^ up) (pow_pos 64))

  pub new_few : ones (bit_or (h.recent * 2 ^ up % 2 ^ 64) (bits / 2 ^ lowest bits)) ≤ 64
  new_few = ones-le 64 (bit_or (h.recent * 2 ^ up % 2 ^ 64) (bits / 2 ^ lowest bits)) recent_lt
