-- What a program's shifts do to one place of a history. Assumes nothing.
use mathlib.Core.Path.{◌≡◌, refl, sym, ap, ap₂, ◌∙◌}
use mathlib.Core.Bool.{Bool, cond, ◌&&◌, ◌||◌, or_comm, or-false}
use Prim.Native.Nat.{ℕ, suc, ◌+◌, ◌-◌, ◌*◌, ◌/◌, ◌%◌, ◌^◌, ◌≤◌, ◌<◌}
use native.Mathlib.Nat.{mod-lt}
use native.Mathlib.Decide.{dec_le}
use native.Mathlib.Omega.{arith}
use borrow.Author.Tests.{ne_eqb, lt-ltb, le-ltb}
use lib.Bits.{bit_or, or_lt}
use lib.Dec.{eqb, leb, ltb}
use lib.Pow.{pow_pos, pow-lt}
use Rattle.source.specs.declared.History.{History}
use Rattle.source.specs.Places.{bit, place, history, marks, moved, added}
use Rattle.source.proofs.Rows.{digit, history_ext, marks_recent, marks_older, marks_history}
use Rattle.source.proofs.Shifts.{place_zero, place_mul, place_mod, place_or, place_bit, one_shl, words_are, near_older}
use Rattle.engine.proofs.Union.{eqb_shift}

module _ (h : History) (recent : h.recent < 2 ^ 64) (older : h.older < 2 ^ 36) where
  -- every place moved up
  pub moved_words : (up : ℕ) → up < 64
      → ◌≡◌ {A = History} (record { recent = h.recent * 2 ^ up % 2 ^ 64; older = bit_or (h.older * 2 ^ up % 2 ^ 64) (h.recent / 2 / 2 ^ (63 - up)) % 2 ^ 36 }) (history (moved up (marks h)))
  unfolding moved added
  moved_words up l =
      words_are (h.recent * 2 ^ up % 2 ^ 64) (bit_or (h.older * 2 ^ up % 2 ^ 64) (h.recent / 2 / 2 ^ (63 - up)) % 2 ^ 36) (moved up (marks h))
      (mod-lt (h.recent * 2 ^ up) (pow_pos 64)) (mod-lt (bit_or (h.older * 2 ^ up % 2 ^ 64) (h.recent / 2 / 2 ^ (63 - up))) (pow_pos 36))
      (λ k g. place_mod 64 (h.recent * 2 ^ up) k g ∙ place_mul up h.recent k ∙ ap (λ (t : Bool). leb up k && t) (sym (marks_recent h (k - up) (omega arith))))
      (λ k g. near_older h recent older up 0 l (omega arith) k g ∙ rw (ne_eqb (64 + k) 0 (λ z. omega arith)) refl)

  -- no place more
  or_none : (x k : ℕ) → place (bit_or x 0) k ≡ place x k
  or_none x k = place_or x 0 k ∙ ap (λ (t : Bool). place x k || t) (place_zero k) ∙ or-false (place x k)

  or_one : (x j k : ℕ) → place (bit_or x (2 ^ j)) k ≡ (eqb k j || place x k)
  or_one x j k = place_or x (2 ^ j) k ∙ ap (λ (t : Bool). place x k || t) (place_bit j k) ∙ or_comm (place x k) (eqb k j)

  -- place k marked too, in the word that has it
  pub marked_words : (k : ℕ) → k < 100
      → ◌≡◌ {A = History} (record { recent = bit_or h.recent (cond (ltb k 64) (1 * 2 ^ (k % 64) % 2 ^ 64) 0); older = bit_or h.older (cond (ltb k 64) 0 (1 * 2 ^ (k % 64) % 2 ^ 64)) })
      (history (added k (marks h)))
  unfolding added
  marked_words k l = go (dec_le (suc k) 64)
    where
      go : Dec (suc k ≤ 64)
          → ◌≡◌ {A = History} (record { recent = bit_or h.recent (cond (ltb k 64) (1 * 2 ^ (k % 64) % 2 ^ 64) 0); older = bit_or h.older (cond (ltb k 64) 0 (1 * 2 ^ (k % 64) % 2 ^ 64)) })
          (history (λ i. eqb i k || marks h i))
      go (yes g) =
          let here : k % 64 ≡ k = omega arith in
          let one : 1 * 2 ^ (k % 64) % 2 ^ 64 ≡ 2 ^ k = ap (λ (j : ℕ). 1 * 2 ^ j % 2 ^ 64) here ∙ one_shl k (omega arith) in
          rw (lt-ltb k 64 g, one)
          (words_are (bit_or h.recent (2 ^ k)) (bit_or h.older 0) (λ i. eqb i k || marks h i)
          (or_lt 64 h.recent (2 ^ k) recent (pow-lt g)) (or_lt 36 h.older 0 older (omega arith))
          (λ i m. or_one h.recent k i ∙ ap (λ (t : Bool). eqb i k || t) (sym (marks_recent h i m)))
          (λ i m. or_none h.older i ∙ sym (rw (ne_eqb (64 + i) k (λ z. omega arith)) (marks_older h i))))
      go (no g) =
          let there : k % 64 ≡ k - 64 = omega arith in
          let one : 1 * 2 ^ (k % 64) % 2 ^ 64 ≡ 2 ^ (k - 64) = ap (λ (j : ℕ). 1 * 2 ^ j % 2 ^ 64) there ∙ one_shl (k - 64) (omega arith) in
          let up : (k - 64) + 64 ≡ k = omega arith in
          let few : k - 64 < 36 = omega arith in
          rw (le-ltb k 64 (omega arith), one)
          (words_are (bit_or h.recent 0) (bit_or h.older (2 ^ (k - 64))) (λ i. eqb i k || marks h i)
          (or_lt 64 h.recent 0 recent (omega arith)) (or_lt 36 h.older (2 ^ (k - 64)) older (pow-lt few))
          (λ i m. or_none h.recent i ∙ sym (rw (ne_eqb i k (λ z. omega arith)) (marks_recent h i m)))
          (λ i m. or_one h.older (k - 64) i ∙ ap₂ ◌||◌ (sym (eqb_shift 64 i (k - 64)) ∙ ap (eqb (64 + i)) up) (sym (marks_older h i))))

-- whether place k is marked
pub mark_word : (h : History) (k : ℕ) → k < 100 → cond (ltb k 64) h.recent h.older / 2 ^ (k % 64) % 2 ≡ bit (marks h k)
unfolding marks place
mark_word h k l = go (dec_le (suc k) 64)
  where
    go : Dec (suc k ≤ 64) → cond (ltb k 64) h.recent h.older / 2 ^ (k % 64) % 2 ≡ bit (cond (ltb k 64) (eqb (h.recent / 2 ^ k % 2) 1) (eqb (h.older / 2 ^ (k - 64) % 2) 1))
    go (yes g) =
        let here : k % 64 ≡ k = omega arith in
        rw (lt-ltb k 64 g, here) (digit (h.recent / 2 ^ k) (eqb (h.recent / 2 ^ k % 2) 1) refl)
    go (no g) =
        let there : k % 64 ≡ k - 64 = omega arith in
        rw (le-ltb k 64 (omega arith), there) (digit (h.older / 2 ^ (k - 64)) (eqb (h.older / 2 ^ (k - 64) % 2) 1) refl)

-- moved and then marked
pub moved_then : (row : ℕ → Bool) (k : ℕ) → history (added k (marks (history row))) ≡ history (added k row)
unfolding added
moved_then row k = history_ext (added k (marks (history row))) (added k row) (λ i l. ap (λ (t : Bool). eqb i k || t) (marks_history row i l))
