-- A word's places under the operations on words, and what a program's shifts do to a history. Assumes nothing.
use mathlib.Core.Path.{◌≡◌, refl, sym, ap, ap₂, ◌∙◌}
use mathlib.Core.Bool.{Bool, true, false, ◌&&◌, ◌||◌, or_comm, or-false}
use Prim.Native.Nat.{ℕ, zero, suc, ◌+◌, ◌-◌, ◌*◌, ◌/◌, ◌%◌, ◌^◌, ◌≤◌, ◌<◌, max}
use native.Mathlib.Nat.{pow-suc, le_of_suc-le-suc, not-suc-le-zero, mod-lt, zero-lt-suc, mul-one, one-mul, sub-zero, suc-sub-suc}
use native.Mathlib.Decide.{dec_le}
use native.Mathlib.Omega.{arith}
use borrow.Author.Tests.{eq-eqb, ne_eqb, le-leb, lt-leb}
use lib.Arith.{lt-one, mod-mul}
use lib.Bits.{bit_or, or_step, shifted_half, shifted_even, or_lt}
use lib.Dec.{leb, eqb, leb-zero, leb-suc-zero, leb-suc-suc, eqb-suc-zero, eqb→eq}
use lib.Pow.{pow_pos, pow-lt, shr-shr, shl_exact}
use Rattle.answers.proofs.Conditions.{same_test, true_is}
use Rattle.source.specs.declared.History.{History}
use Rattle.source.specs.Places.{bit, place, history, marks, moved, added}
use Rattle.source.proofs.Rows.{place_low, place_next, digit, pack_unique, marks_recent, marks_older}

-- ---- one word

pub place_zero : (k : ℕ) → place 0 k ≡ false
place_zero zero = place_low 0
place_zero (suc k) = place_next 0 k ∙ place_zero k

pub place_one : (k : ℕ) → place 1 k ≡ eqb k 0
place_one zero = place_low 1
place_one (suc k) = place_next 1 k ∙ place_zero k ∙ sym (eqb-suc-zero k)

-- shifted left
pub place_mul : (d x k : ℕ) → place (x * 2 ^ d) k ≡ (leb d k && place x (k - d))
place_mul zero x k = ap (λ (y : ℕ). place y k) (mul-one x) ∙ sym (ap₂ (λ (t : Bool) (j : ℕ). t && place x j) (leb-zero k) (sub-zero k))
place_mul (suc d) x zero =
    place_low (x * 2 ^ suc d) ∙ ap (λ (y : ℕ). eqb y 1) (shifted_even x d) ∙ sym (ap (λ (t : Bool). t && place x (0 - suc d)) (leb-suc-zero d))
place_mul (suc d) x (suc k) =
    place_next (x * 2 ^ suc d) k ∙ ap (λ (y : ℕ). place y k) (shifted_half x d) ∙ place_mul d x k
    ∙ sym (ap₂ (λ (t : Bool) (j : ℕ). t && place x j) (leb-suc-suc d k) (suc-sub-suc k d))

-- shifted right
pub place_div : (d x k : ℕ) → place (x / 2 ^ d) k ≡ place x (d + k)
unfolding place
place_div d x k = ap (λ (y : ℕ). eqb (y % 2) 1) (shr-shr x d k)

-- the low n bits
mod_half : (n x : ℕ) → x % 2 ^ suc n ≡ (x / 2 % 2 ^ n) * 2 + x % 2
mod_half n x = ap (λ (m : ℕ). x % m) (pow-suc 2 n) ∙ mod-mul x (pow_pos n) (zero-lt-suc 1)

pub place_mod : (n x k : ℕ) → k < n → place (x % 2 ^ n) k ≡ place x k
place_mod zero x k h = absurd (not-suc-le-zero h)
place_mod (suc n) x zero h =
    let e : x % 2 ^ suc n % 2 ≡ x % 2 = omega (arith, mod_half n x) in
    place_low (x % 2 ^ suc n) ∙ ap (λ (y : ℕ). eqb y 1) e ∙ sym (place_low x)
place_mod (suc n) x (suc k) h =
    let e : x % 2 ^ suc n / 2 ≡ x / 2 % 2 ^ n = omega (arith, mod_half n x) in
    place_next (x % 2 ^ suc n) k ∙ ap (λ (y : ℕ). place y k) e ∙ place_mod n (x / 2) k (le_of_suc-le-suc h) ∙ sym (place_next x k)

-- joined
max_bit : (s t : Bool) → eqb (max (bit s) (bit t)) 1 ≡ (s || t)
max_bit true true = refl
max_bit true false = refl
max_bit false true = refl
max_bit false false = refl

pub place_or : (x y k : ℕ) → place (bit_or x y) k ≡ (place x k || place y k)
place_or x y zero =
    let e : bit_or x y % 2 ≡ max (x % 2) (y % 2) = omega (arith, or_step x y) in
    place_low (bit_or x y)
    ∙ ap (λ (z : ℕ). eqb z 1) (e ∙ ap₂ max (digit x (eqb (x % 2) 1) refl) (digit y (eqb (y % 2) 1) refl)) ∙ max_bit (eqb (x % 2) 1) (eqb (y % 2) 1)
    ∙ sym (ap₂ ◌||◌ (place_low x) (place_low y))
place_or x y (suc k) =
    let e : bit_or x y / 2 ≡ bit_or (x / 2) (y / 2) = omega (arith, or_step x y) in
    place_next (bit_or x y) k ∙ ap (λ (z : ℕ). place z k) e ∙ place_or (x / 2) (y / 2) k ∙ sym (ap₂ ◌||◌ (place_next x k) (place_next y k))

-- above its bits a word has no place marked
pub place_above : (n x k : ℕ) → x < 2 ^ n → n ≤ k → place x k ≡ false
place_above zero x k h l = ap (λ (y : ℕ). place y k) (lt-one h) ∙ place_zero k
place_above (suc n) x zero h l = absurd (not-suc-le-zero l)
place_above (suc n) x (suc k) h l = place_next x k ∙ place_above n (x / 2) k (omega (arith, pow-suc 2 n)) (le_of_suc-le-suc l)

-- one bit, as `1 << j` makes it
pub one_shl : (j : ℕ) → j < 64 → 1 * 2 ^ j % 2 ^ 64 ≡ 2 ^ j
one_shl j h = shl_exact {a = 1} 1 j 64 (omega arith) (omega arith) ∙ one-mul (2 ^ j)

pub place_bit : (j k : ℕ) → place (2 ^ j) k ≡ eqb k j
place_bit j k =
    let e : 2 ^ j ≡ 1 * 2 ^ j = omega arith in
    ap (λ (y : ℕ). place y k) e ∙ place_mul j 1 k ∙ ap (λ (t : Bool). leb j k && t) (place_one (k - j)) ∙ go (dec_le j k)
  where
    go : Dec (j ≤ k) → (leb j k && eqb (k - j) 0) ≡ eqb k j
    go (no g) = rw (lt-leb j k (omega arith)) (sym (ne_eqb k j (omega arith)))
    go (yes l) = rw (le-leb j k l) (same_test (eqb (k - j) 0) (eqb k j)
        (λ t. let z = eqb→eq (k - j) 0 t in true_is (eqb k j) (eq-eqb k j (omega arith)))
        (λ t. let z = eqb→eq k j t in true_is (eqb (k - j) 0) (eq-eqb (k - j) 0 (omega arith))))

-- ---- the two words of a history

-- two words that have the row's places
pub words_are : (recent older : ℕ) (row : ℕ → Bool) → recent < 2 ^ 64 → older < 2 ^ 36
    → ((k : ℕ) → k < 64 → place recent k ≡ row k) → ((k : ℕ) → k < 36 → place older k ≡ row (64 + k))
    → ◌≡◌ {A = History} (record { recent = recent; older = older }) (history row)
words_are recent older row fits-recent fits-older low high = λ i. record {
  recent = pack_unique 64 recent row fits-recent low i;
  older = pack_unique 36 older (λ k. row (64 + k)) fits-older high i;
}

module _ (h : History) (fits-recent : h.recent < 2 ^ 64) (fits-older : h.older < 2 ^ 36) where
  in_older : (k : ℕ) → 64 ≤ k → marks h k ≡ place h.older (k - 64)
  in_older k l = ap (marks h) (omega arith) ∙ marks_older h (k - 64)

  -- moved up by `up` places and place j marked, both below 64: `older` takes the bits that leave `recent`
  near_recent : (up j : ℕ) → up < 64 → (k : ℕ) → k < 64 → place (bit_or (h.recent * 2 ^ up % 2 ^ 64) (2 ^ j)) k ≡ added j (moved up (marks h)) k
  unfolding moved added
  near_recent up j l k g =
      place_or (h.recent * 2 ^ up % 2 ^ 64) (2 ^ j) k
      ∙ ap₂ ◌||◌ (place_mod 64 (h.recent * 2 ^ up) k g ∙ place_mul up h.recent k ∙ ap (λ (t : Bool). leb up k && t) (sym (marks_recent h (k - up) (omega arith)))) (place_bit j k)
      ∙ or_comm (leb up k && marks h (k - up)) (eqb k j)

  pub near_older : (up j : ℕ) → up < 64 → j < 64 → (k : ℕ) → k < 36
      → place (bit_or (h.older * 2 ^ up % 2 ^ 64) (h.recent / 2 / 2 ^ (63 - up)) % 2 ^ 36) k ≡ added j (moved up (marks h)) (64 + k)
  unfolding moved added
  near_older up j l m k g =
      place_mod 36 (bit_or (h.older * 2 ^ up % 2 ^ 64) (h.recent / 2 / 2 ^ (63 - up))) k g ∙ place_or (h.older * 2 ^ up % 2 ^ 64) (h.recent / 2 / 2 ^ (63 - up)) k
      ∙ ap₂ ◌||◌ (place_mod 64 (h.older * 2 ^ up) k (omega arith) ∙ place_mul up h.older k)
      (place_div (63 - up) (h.recent / 2) k ∙ sym (place_next h.recent (63 - up + k)))
      ∙ go (dec_le up k)
    where
      go : Dec (up ≤ k) → ((leb up k && place h.older (k - up)) || place h.recent (suc (63 - up + k))) ≡ (eqb (64 + k) j || (leb up (64 + k) && marks h (64 + k - up)))
      go (yes q) = rw (le-leb up k q, place_above 64 h.recent (suc (63 - up + k)) fits-recent (omega arith), ne_eqb (64 + k) j (omega arith), le-leb up (64 + k) (omega arith))
          (or-false (place h.older (k - up)) ∙ sym (in_older (64 + k - up) (omega arith) ∙ ap (place h.older) (omega arith)))
      go (no q) = rw (lt-leb up k (omega arith), ne_eqb (64 + k) j (omega arith), le-leb up (64 + k) (omega arith))
          (ap (place h.recent) (omega arith) ∙ sym (marks_recent h (64 + k - up) (omega arith)))

  pub near_words : (up j : ℕ) → up < 64 → j < 64
      → ◌≡◌ {A = History}
      (record {
        recent = bit_or (h.recent * 2 ^ up % 2 ^ 64) (2 ^ j);
        older = bit_or (h.older * 2 ^ up % 2 ^ 64) (h.recent / 2 / 2 ^ (63 - up)) % 2 ^ 36;
      })
      (history (added j (moved up (marks h))))
  near_words up j l m =
      words_are (bit_or (h.recent * 2 ^ up % 2 ^ 64) (2 ^ j)) (bit_or (h.older * 2 ^ up % 2 ^ 64) (h.recent / 2 / 2 ^ (63 - up)) % 2 ^ 36) (added j (moved up (marks h)))
      (or_lt 64 (h.recent * 2 ^ up % 2 ^ 64) (2 ^ j) (mod-lt (h.recent * 2 ^ up) (pow_pos 64)) (pow-lt m))
      (mod-lt (bit_or (h.older * 2 ^ up % 2 ^ 64) (h.recent / 2 / 2 ^ (63 - up))) (pow_pos 36)) (near_recent up j l) (near_older up j l m)

  -- and whether place j was marked
  pub near_was : (up j : ℕ) → up < 64 → j < 64 → h.recent * 2 ^ up % 2 ^ 64 / 2 ^ j % 2 ≡ bit (moved up (marks h) j)
  unfolding moved place
  near_was up j l m =
      digit (h.recent * 2 ^ up % 2 ^ 64 / 2 ^ j) (eqb (h.recent * 2 ^ up % 2 ^ 64 / 2 ^ j % 2) 1) refl
      ∙ ap bit (place_mod 64 (h.recent * 2 ^ up) j m ∙ place_mul up h.recent j ∙ ap (λ (t : Bool). leb up j && t) (sym (marks_recent h (j - up) (omega arith))))

  -- moved up by 64 places or more: of `recent` only place 0 is left
  only_lowest : (d : ℕ) → 64 ≤ d → (k : ℕ) → k < 64 → place 1 k ≡ added 0 (moved d (marks h)) k
  unfolding moved added
  only_lowest d l k g = place_one k ∙ rw (lt-leb d k (omega arith)) (sym (or-false (eqb k 0)))

  pub moved_far : (d : ℕ) → 64 ≤ d → d < 100
      → ◌≡◌ {A = History} (record { recent = 1; older = h.recent * 2 ^ (d - 64) % 2 ^ 64 % 2 ^ 36 }) (history (added 0 (moved d (marks h))))
  unfolding moved added
  moved_far d l q =
      words_are 1 (h.recent * 2 ^ (d - 64) % 2 ^ 64 % 2 ^ 36) (added 0 (moved d (marks h))) (omega arith)
      (mod-lt (h.recent * 2 ^ (d - 64) % 2 ^ 64) (pow_pos 36)) (only_lowest d l)
      (λ k g. place_mod 36 (h.recent * 2 ^ (d - 64) % 2 ^ 64) k g ∙ place_mod 64 (h.recent * 2 ^ (d - 64)) k (omega arith) ∙ place_mul (d - 64) h.recent k ∙ go k g (dec_le d (64 + k)))
    where
      go : (k : ℕ) → k < 36 → Dec (d ≤ 64 + k) → (leb (d - 64) k && place h.recent (k - (d - 64))) ≡ (eqb (64 + k) 0 || (leb d (64 + k) && marks h (64 + k - d)))
      go k g (yes u) = rw (le-leb (d - 64) k (omega arith), ne_eqb (64 + k) 0 (omega arith), le-leb d (64 + k) u)
          (ap (place h.recent) (omega arith) ∙ sym (marks_recent h (64 + k - d) (omega arith)))
      go k g (no u) = rw (lt-leb (d - 64) k (omega arith), ne_eqb (64 + k) 0 (omega arith), lt-leb d (64 + k) (omega arith))

  -- moved out
  pub moved_out : (d : ℕ) → 100 ≤ d → ◌≡◌ {A = History} (record { recent = 1; older = 0 }) (history (added 0 (moved d (marks h))))
  unfolding moved added
  moved_out d l =
      words_are 1 0 (added 0 (moved d (marks h))) (omega arith) (omega arith) (only_lowest d (omega arith))
      (λ k g. place_zero k ∙ rw (ne_eqb (64 + k) 0 (omega arith), lt-leb d (64 + k) (omega arith)))

  -- place j marked too, in the older word
  pub added_older : (j : ℕ) → 64 ≤ j → j < 100
      → ◌≡◌ {A = History} (record { recent = h.recent; older = bit_or h.older (2 ^ (j - 64)) }) (history (added j (marks h)))
  unfolding added
  added_older j l q =
      words_are h.recent (bit_or h.older (2 ^ (j - 64))) (added j (marks h)) fits-recent (or_lt 36 h.older (2 ^ (j - 64)) fits-older (pow-lt small))
      (λ k g. rw (ne_eqb k j (omega arith)) (sym (marks_recent h k g)))
      (λ k g. place_or h.older (2 ^ (j - 64)) k ∙ ap₂ ◌||◌ (sym (marks_older h k)) (place_bit (j - 64) k ∙ shift k) ∙ or_comm (marks h (64 + k)) (eqb (64 + k) j))
    where
      small : j - 64 < 36
      small = omega arith

      shift : (k : ℕ) → eqb k (j - 64) ≡ eqb (64 + k) j
      shift k = same_test (eqb k (j - 64)) (eqb (64 + k) j)
          (λ t. let z = eqb→eq k (j - 64) t in true_is (eqb (64 + k) j) (eq-eqb (64 + k) j (omega arith)))
          (λ t. let z = eqb→eq (64 + k) j t in true_is (eqb k (j - 64)) (eq-eqb k (j - 64) (omega arith)))

-- moved up by no place
pub moved_none : (row : ℕ → Bool) → moved 0 row ≡ row
unfolding moved
moved_none row = λ i k. ap₂ (λ (t : Bool) (j : ℕ). t && row j) (leb-zero k) (sub-zero k) i

-- the history of a first arrival
pub first_history : ◌≡◌ {A = History} (record { recent = 1; older = 0 }) (history (λ k. eqb k 0))
first_history =
    words_are 1 0 (λ k. eqb k 0) (omega arith) (omega arith) (λ k g. place_one k) (λ k g. place_zero k ∙ sym (ne_eqb (64 + k) 0 (omega arith)))
