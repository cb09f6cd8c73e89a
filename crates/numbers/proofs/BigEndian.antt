-- Laws of big-endian numbers, over the width. Assumes nothing.
use Rattle.std.proofs.Common.{◌≡◌, ℕ, zero, suc, ◌+◌, ◌*◌, ◌/◌, ◌%◌, ◌^◌, ◌<◌, ◌≤◌, List, [], ◌∷◌, ◌++◌, length, get_or, drop, sym, refl, ap, ◌∙◌, append_assoc, add-zero, add_assoc, add-suc, mul_assoc, mul_comm, pow-suc, zero-add, div-one, add-one, arith, length-append, get_or-drop, get_or-append-add}
use native.Mathlib.Nat.{one-le-pow, div-div-eq-div-mul, mod-one}
use lib.Arith.{mod-mul, digits_div, digits_mod}
use lib.ListN.{get_or-append, get_or-eq_default}
use lib.Seq.{get_or_at}
use Rattle.numbers.specs.BigEndian.{word, bytes}

-- every element is a byte
abbrev pub Octets : List ℕ → Type 0
Octets s = (i : ℕ) → get_or s i 0 < 256

-- ---- reading

module _ (s : List ℕ) (at : ℕ) where
  pub word_two : word 2 s at ≡ get_or s at 0 * 256 + get_or s (at + 1) 0
  unfolding word
  word_two = rw (zero-add, add-zero at)

  pub word_lt : (k : ℕ) → Octets s → word k s at < 256 ^ k
  unfolding word
  word_lt zero h = omega arith
  word_lt (suc k) h = rw pow-suc (omega (arith, word_lt k h, h (at + k)))

  -- the bytes past the end
  pub word_out : (k : ℕ) → length s ≤ at → word k s at ≡ 0
  unfolding word
  word_out zero h = refl
  word_out (suc k) h = rw (word_out k h, get_or-eq_default s 0 {n = at + k} (omega arith))

  -- a number is its upper bytes' and its lower bytes' numbers
  pub word_add : (m n : ℕ) → word (m + n) s at ≡ word m s at * 256 ^ n + word n s (at + m)
  unfolding word
  word_add m zero = rw (add-zero m) (omega arith)
  word_add m (suc n) =
      rw (add-suc m n, word_add m n, ← add_assoc at m n, pow-suc 256 n, ← mul_assoc (word m s at) (256 ^ n) 256) (omega arith)

-- in a part, and in a list that is put together
pub word_drop : (k n : ℕ) (s : List ℕ) (at : ℕ) → word k (drop n s) at ≡ word k s (n + at)
unfolding word
word_drop zero n s at = refl
word_drop (suc k) n s at = rw (word_drop k n s at, get_or-drop n s (at + k) 0, add_assoc n at k)

module _ (p q : List ℕ) (at : ℕ) where
  pub word_left : (k : ℕ) → at + k ≤ length p → word k (p ++ q) at ≡ word k p at
  unfolding word
  word_left zero h = refl
  word_left (suc k) h = rw (word_left k (omega arith), get_or-append p q 0 (at + k) (omega arith))

  pub word_right : (k : ℕ) → word k (p ++ q) (length p + at) ≡ word k q at
  unfolding word
  word_right zero = refl
  word_right (suc k) = rw (word_right k, add_assoc (length p) at k, get_or-append-add p q (at + k) 0)

-- ---- writing

pub length-bytes : (k n : ℕ) → length (bytes k n) ≡ k
unfolding bytes
length-bytes zero n = refl
length-bytes (suc k) n = length-append (bytes k (n / 256)) (n % 256 ∷ []) ∙ ap (λ (i : ℕ). i + 1) (length-bytes k (n / 256)) ∙ add-one k

pub bytes_two : (n : ℕ) → bytes 2 n ≡ n / 256 % 256 ∷ n % 256 ∷ []
unfolding bytes
bytes_two n = refl

-- the upper bytes, and then the lower ones
pub bytes_add : (m k n : ℕ) → bytes (m + k) n ≡ bytes m (n / 256 ^ k) ++ bytes k n
unfolding bytes
bytes_add m zero n = rw (add-zero m, div-one n) (sym (append-nil' (bytes m n)))
  where
    append-nil' : (l : List ℕ) → l ++ [] ≡ l
    append-nil' [] = refl
    append-nil' (a ∷ l) = ap (λ (t : List ℕ). a ∷ t) (append-nil' l)
bytes_add m (suc k) n =
    rw (add-suc m k, bytes_add m k (n / 256), div-div-eq-div-mul n 256 (256 ^ k), mul_comm 256 (256 ^ k), ← pow-suc 256 k)
    (append_assoc (bytes m (n / 256 ^ suc k)) (bytes k (n / 256)) (n % 256 ∷ []))

-- the lowest digits of n are all that is written
upper : (k n : ℕ) → n % 256 ^ suc k ≡ (n / 256 % 256 ^ k) * 256 + n % 256
upper k n = ap (λ (m : ℕ). n % m) (pow-suc 256 k) ∙ mod-mul n (one-le-pow k 256 (omega arith)) (omega arith)

low_byte : (n : ℕ) → n % 256 < 256
low_byte n = omega arith

pub bytes_mod : (k n : ℕ) → bytes k (n % 256 ^ k) ≡ bytes k n
unfolding bytes
bytes_mod zero n = refl
bytes_mod (suc k) n =
    rw (upper k n, digits_div (n / 256 % 256 ^ k) (low_byte n), digits_mod (n / 256 % 256 ^ k) (low_byte n), bytes_mod k (n / 256))

-- what is written reads back
pub word_bytes : (k n : ℕ) → word k (bytes k n) 0 ≡ n % 256 ^ k
unfolding word bytes
word_bytes zero n = sym (mod-one n)
word_bytes (suc k) n =
    let front : List ℕ = bytes k (n / 256) in
    let back : List ℕ = n % 256 ∷ [] in
    let high : word k (front ++ back) 0 ≡ n / 256 % 256 ^ k = word_left front back 0 k (omega (arith, length-bytes k (n / 256))) ∙ word_bytes k (n / 256) in
    let low : get_or (front ++ back) (0 + k) 0 ≡ n % 256 = get_or_at front (n % 256) [] 0 (0 + k) (length-bytes k (n / 256) ∙ sym (zero-add k)) in
    rw (high, low) (sym (upper k n))
