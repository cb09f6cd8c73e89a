-- Laws of rows of places: packed into words, and counted. Assumes nothing.
use mathlib.Core.Path.{◌≡◌, refl, sym, ap, ap₂, ◌∙◌, subst}
use mathlib.Core.Logic.{⊎_elim}
use mathlib.Core.Bool.{Bool, true, false, not, cond, ◌||◌}
use Prim.Native.Nat.{ℕ, zero, suc, ◌+◌, ◌-◌, ◌*◌, ◌/◌, ◌%◌, ◌^◌, ◌≤◌, ◌<◌}
use native.Mathlib.Nat.{add-suc, add-zero, div-one, le_of_suc-le-suc, le_refl, not-suc-le-zero, pow-suc, zero-lt-suc}
use native.Mathlib.Numerals.{one-add}
use native.Mathlib.Decide.{dec_le}
use native.Mathlib.Omega.{arith}
use borrow.Author.Tests.{eqb-true, eqb-false, lt-ltb, le-ltb, lt-leb, le-leb}
use lib.Arith.{lt-one}
use lib.Count.{ones, ones_step}
use lib.Dec.{T, eqb, eqb→eq, ltb}
use lib.Pow.{shr-shr}
use Rattle.answers.proofs.Conditions.{is_false, true_is, false_not, same_test, or_cases, or_right}
use Rattle.source.specs.declared.History.{History}
use Rattle.source.specs.Places.{bit, place, pack, history, marks, places, moved, added}

-- ---- the bits of a word

pub place_low : (x : ℕ) → place x 0 ≡ eqb (x % 2) 1
unfolding place
place_low x = ap (λ (y : ℕ). eqb (y % 2) 1) (div-one x)

pub place_next : (x k : ℕ) → place x (suc k) ≡ place (x / 2) k
unfolding place
place_next x k = ap (λ (y : ℕ). eqb (y % 2) 1) (ap (λ (i : ℕ). x / 2 ^ i) (sym (one-add k)) ∙ sym (shr-shr x 1 k))

pub bit_le : (b : Bool) → bit b ≤ 1
bit_le true = omega arith
bit_le false = omega arith

bit_set : (b : Bool) → eqb (bit b) 1 ≡ b
bit_set true = refl
bit_set false = refl

low_bit : (b : Bool) (p : ℕ) → (bit b + 2 * p) % 2 ≡ bit b
low_bit true p = omega arith
low_bit false p = omega arith

high_bits : (b : Bool) (p : ℕ) → (bit b + 2 * p) / 2 ≡ p
high_bits true p = omega arith
high_bits false p = omega arith

-- ---- rows packed into a word

pub pack_ext : (n : ℕ) (f g : ℕ → Bool) → ((k : ℕ) → k < n → f k ≡ g k) → pack n f ≡ pack n g
unfolding pack
pack_ext zero f g h = refl
pack_ext (suc n) f g h =
    ap₂ (λ (x : Bool) (y : ℕ). bit x + 2 * y) (h 0 (omega arith)) (pack_ext n (λ k. f (suc k)) (λ k. g (suc k)) (λ k l. h (suc k) (omega arith)))

pub pack_lt : (n : ℕ) (f : ℕ → Bool) → pack n f < 2 ^ n
unfolding pack
pack_lt zero f = zero-lt-suc 0
pack_lt (suc n) f = omega (arith, pack_lt n (λ k. f (suc k)), bit_le (f 0), pow-suc 2 n)

pub place_pack : (n k : ℕ) (f : ℕ → Bool) → k < n → place (pack n f) k ≡ f k
unfolding pack
place_pack zero k f h = absurd (not-suc-le-zero h)
place_pack (suc n) zero f h =
    place_low (bit (f 0) + 2 * pack n (λ k. f (suc k))) ∙ ap (λ (x : ℕ). eqb x 1) (low_bit (f 0) (pack n (λ k. f (suc k)))) ∙ bit_set (f 0)
place_pack (suc n) (suc k) f h =
    place_next (bit (f 0) + 2 * pack n (λ k. f (suc k))) k
    ∙ ap (λ (x : ℕ). place x k) (high_bits (f 0) (pack n (λ k. f (suc k)))) ∙ place_pack n k (λ k. f (suc k)) (le_of_suc-le-suc h)

pub digit : (x : ℕ) (b : Bool) → eqb (x % 2) 1 ≡ b → x % 2 ≡ bit b
digit x true e = eqb-true (x % 2) 1 e
digit x false e = let n = eqb-false (x % 2) 1 e in omega (arith, n)

half : (x : ℕ) → x ≡ x % 2 + 2 * (x / 2)
half x = omega arith

-- a word of n bits is the row of its places
pub pack_unique : (n x : ℕ) (f : ℕ → Bool) → x < 2 ^ n → ((k : ℕ) → k < n → place x k ≡ f k) → x ≡ pack n f
unfolding pack
pack_unique zero x f h t = lt-one h
pack_unique (suc n) x f h t =
    half x ∙ ap₂ (λ (a b : ℕ). a + 2 * b) (digit x (f 0) (sym (place_low x) ∙ t 0 (zero-lt-suc n)))
    (pack_unique n (x / 2) (λ k. f (suc k)) (omega (arith, pow-suc 2 n)) (λ k l. sym (place_next x k) ∙ t (suc k) (omega arith)))

-- ---- how many places below n a row marks

pub marked : ℕ → (ℕ → Bool) → ℕ
marked zero f = 0
marked (suc n) f = marked n f + bit (f n)

pub marked_ext : (n : ℕ) (f g : ℕ → Bool) → ((k : ℕ) → k < n → f k ≡ g k) → marked n f ≡ marked n g
unfolding marked
marked_ext zero f g h = refl
marked_ext (suc n) f g h =
    ap₂ (λ (y : ℕ) (x : Bool). y + bit x) (marked_ext n f g (λ k l. h k (omega arith))) (h n (omega arith))

or_bit : (a b : Bool) → bit (a || b) ≤ bit a + bit b
or_bit true b = omega arith
or_bit false b = omega arith

pub marked_or : (n : ℕ) (f g : ℕ → Bool) → marked n (λ k. f k || g k) ≤ marked n f + marked n g
unfolding marked
marked_or zero f g = omega arith
marked_or (suc n) f g = omega (arith, marked_or n f g, or_bit (f n) (g n))

pub marked_none : (n : ℕ) (f : ℕ → Bool) → ((k : ℕ) → k < n → T (f k) → ⊥) → marked n f ≡ 0
unfolding marked
marked_none zero f h = refl
marked_none (suc n) f h =
    ap₂ (λ (y : ℕ) (x : Bool). y + bit x) (marked_none n f (λ k l. h k (omega arith))) (is_false (f n) (h n (omega arith)))

-- a row that marks no two places marks at most one
pub marked_one : (n : ℕ) (f : ℕ → Bool) → ((j k : ℕ) → T (f j) → T (f k) → j ≡ k) → marked n f ≤ 1
unfolding marked
marked_one zero f h = omega arith
marked_one (suc n) f h = go (f n) refl (marked_one n f h)
  where
    go : (b : Bool) → f n ≡ b → marked n f ≤ 1 → marked n f + bit (f n) ≤ 1
    go true e ih =
        let t : T (f n) = true_is (f n) e in
        let none : marked n f ≡ 0 = marked_none n f (λ k l u. let q = h k n u t in omega arith) in
        let b : bit (f n) ≡ 1 = ap bit e in omega arith
    go false e ih = let b : bit (f n) ≡ 0 = ap bit e in omega (arith, ih)

marked_front : (n : ℕ) (f : ℕ → Bool) → marked (suc n) f ≡ bit (f 0) + marked n (λ k. f (suc k))
unfolding marked
marked_front zero f = omega arith
marked_front (suc n) f = omega (arith, marked_front n f)

pub marked_split : (n m : ℕ) (f : ℕ → Bool) → marked (n + m) f ≡ marked n f + marked m (λ k. f (n + k))
unfolding marked
marked_split n zero f = ap (λ (x : ℕ). marked x f) (add-zero n) ∙ sym (add-zero (marked n f))
marked_split n (suc m) f = ap (λ (x : ℕ). marked x f) (add-suc n m) ∙ omega (arith, marked_split n m f)

-- ---- the ones of a word

pub ones-pack : (n : ℕ) (f : ℕ → Bool) → ones (pack n f) ≡ marked n f
unfolding pack ones marked
ones-pack zero f = refl
ones-pack (suc n) f =
    let rest : ℕ = pack n (λ k. f (suc k)) in
    ones_step (bit (f 0) + 2 * rest) ∙ ap₂ ◌+◌ (low_bit (f 0) rest) (ap ones (high_bits (f 0) rest) ∙ ones-pack n (λ k. f (suc k))) ∙ sym (marked_front n f)

-- a word has at least the ones among its n lowest bits
ones-least : (n x : ℕ) → marked n (place x) ≤ ones x
unfolding marked
ones-least zero x = omega arith
ones-least (suc n) x =
    let front = marked_front n (place x) in
    let low : bit (place x 0) ≡ x % 2 = ap bit (place_low x) ∙ sym (digit x (eqb (x % 2) 1) refl) in
    let rest : marked n (λ k. place x (suc k)) ≡ marked n (place (x / 2)) = marked_ext n (λ k. place x (suc k)) (place (x / 2)) (λ k l. place_next x k) in
    omega (arith, ones_step x, ones-least n (x / 2))

-- ---- the two words of a history

module _ (h : History) where
  pub marks_recent : (k : ℕ) → k < 64 → marks h k ≡ place h.recent k
  unfolding marks
  marks_recent k l = rw (lt-ltb k 64 l)

  pub marks_older : (k : ℕ) → marks h (64 + k) ≡ place h.older k
  unfolding marks
  marks_older k = rw (le-ltb (64 + k) 64 (omega arith)) (ap (place h.older) (omega arith))

  -- no more of the 100 places are marked than the words have ones
  pub places_least : marked 100 (marks h) ≤ places h
  unfolding places
  places_least =
      let low : marked 64 (marks h) ≡ marked 64 (place h.recent) = marked_ext 64 (marks h) (place h.recent) (λ k l. marks_recent k l) in
      let high : marked 36 (λ k. marks h (64 + k)) ≡ marked 36 (place h.older) = marked_ext 36 (λ k. marks h (64 + k)) (place h.older) (λ k l. marks_older k) in
      omega (arith, marked_split 64 36 (marks h), ones-least 64 h.recent, ones-least 36 h.older)

module _ (row : ℕ → Bool) where
  pub marks_history : (k : ℕ) → k < 100 → marks (history row) k ≡ row k
  unfolding marks
  marks_history k h = go (dec_le 64 k)
    where
      go : Dec (64 ≤ k) → cond (ltb k 64) (place (pack 64 row) k) (place (pack 36 (λ i. row (64 + i))) (k - 64)) ≡ row k
      go (yes l) = rw (le-ltb k 64 l) (place_pack 36 (k - 64) (λ i. row (64 + i)) (omega arith) ∙ ap row (omega arith))
      go (no g) = rw (lt-ltb k 64 (omega arith)) (place_pack 64 k row (omega arith))

  pub places_history : places (history row) ≡ marked 100 row
  unfolding places
  places_history = ap₂ ◌+◌ (ones-pack 64 row) (ones-pack 36 (λ k. row (64 + k))) ∙ sym (marked_split 64 36 row)

pub history_ext : (f g : ℕ → Bool) → ((k : ℕ) → k < 100 → f k ≡ g k) → history f ≡ history g
history_ext f g h = λ i. record {
  recent = pack_ext 64 f g (λ k l. h k (omega arith)) i;
  older = pack_ext 36 (λ k. f (64 + k)) (λ k. g (64 + k)) (λ k l. h (64 + k) (omega arith)) i;
}

-- ---- a row moved, and with a place marked

pub moved_low : (d k : ℕ) (row : ℕ → Bool) → k < d → moved d row k ≡ false
unfolding moved
moved_low d k row h = rw (lt-leb d k h)

pub moved_high : (d k : ℕ) (row : ℕ → Bool) → moved d row (d + k) ≡ row k
unfolding moved
moved_high d k row = rw (le-leb d (d + k) (omega arith)) (ap row (omega arith))

-- moving marks no more places
pub marked_moved : (n d : ℕ) (row : ℕ → Bool) → marked n (moved d row) ≤ marked n row
marked_moved n d row = go (dec_le d n)
  where
    low : (m : ℕ) → m ≤ d → marked m (moved d row) ≡ 0
    low m l = marked_none m (moved d row) (λ k h t. false_not (moved d row k) (moved_low d k row (omega arith)) t)

    go : Dec (d ≤ n) → marked n (moved d row) ≤ marked n row
    go (no g) = omega (arith, low n (omega arith))
    go (yes l) =
        let up : d + (n - d) ≡ n = omega arith in
        let down : (n - d) + d ≡ n = omega arith in
        let kept : marked (n - d) (λ k. moved d row (d + k)) ≡ marked (n - d) row = marked_ext (n - d) (λ k. moved d row (d + k)) row (λ k h. moved_high d k row) in
        let left : marked n (moved d row) ≡ marked d (moved d row) + marked (n - d) (λ k. moved d row (d + k)) =
        ap (λ (m : ℕ). marked m (moved d row)) (sym up) ∙ marked_split d (n - d) (moved d row) in
        let right : marked n row ≡ marked (n - d) row + marked d (λ k. row ((n - d) + k)) =
        ap (λ (m : ℕ). marked m row) (sym down) ∙ marked_split (n - d) d row in
        omega (arith, low d (le_refl d))

-- a place marked too is one place more, where it was not marked
pub marked_added : (n j : ℕ) (row : ℕ → Bool) → marked n (added j row) ≤ marked n row + bit (not (row j))
unfolding added
marked_added n j row = go (row j) refl
  where
    at : ℕ → Bool
    at k = eqb k j

    again : row j ≡ true → (k : ℕ) → (eqb k j || row k) ≡ row k
    again e k = same_test (eqb k j || row k) (row k)
        (λ t. ⊎_elim (λ u. subst (λ (i : ℕ). T (row i)) (sym (eqb→eq k j u)) (true_is (row j) e)) (λ u. u) (or_cases (eqb k j) (row k) t))
        (λ t. or_right (eqb k j) (row k) t)

    go : (b : Bool) → row j ≡ b → marked n (λ k. eqb k j || row k) ≤ marked n row + bit (not (row j))
    go true e = omega (arith, marked_ext n (λ k. eqb k j || row k) row (λ k l. again e k))
    go false e =
        let one : marked n at ≤ 1 = marked_one n at (λ i k s t. eqb→eq i j s ∙ sym (eqb→eq k j t)) in
        let b : bit (not (row j)) ≡ 1 = ap (λ (c : Bool). bit (not c)) e in
        omega (arith, marked_or n at row)
