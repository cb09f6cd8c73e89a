-- Laws of lists of octets, and of the numbers that stand in them, over the width. Assumes nothing.
use Rattle.std.proofs.Common.{◌≡◌, ℕ, zero, suc, ◌+◌, ◌/◌, ◌%◌, ◌^◌, ◌<◌, ◌≤◌, List, [], ◌∷◌, ◌++◌, length, take, drop, replicate, sym, refl, ap, ◌∙◌, add-zero, mod-eq_of_lt, arith, length-drop, get_or-drop, take-suc}
use lib.Arith.{digits_div, digits_mod}
use Rattle.numbers.specs.BigEndian.{word, bytes}
use Rattle.numbers.proofs.BigEndian.{Octets, length-bytes, word_left, word_right, word_bytes}

-- ---- lists of octets

pub octets_nil : Octets []
octets_nil i = omega arith

pub octets_cons : (c : ℕ) (s : List ℕ) → c < 256 → Octets s → Octets (c ∷ s)
octets_cons c s h k zero = h
octets_cons c s h k (suc i) = k i

pub octets_append : (s t : List ℕ) → Octets s → Octets t → Octets (s ++ t)
octets_append [] t h k = k
octets_append (c ∷ s) t h k = octets_cons c (s ++ t) (h 0) (octets_append s t (λ i. h (suc i)) k)

pub octets_take : (n : ℕ) (s : List ℕ) → Octets s → Octets (take n s)
octets_take zero s h = octets_nil
octets_take (suc n) [] h = octets_nil
octets_take (suc n) (c ∷ s) h = octets_cons c (take n s) (h 0) (octets_take n s (λ i. h (suc i)))

pub octets_drop : (n : ℕ) (s : List ℕ) → Octets s → Octets (drop n s)
octets_drop n s h i = rw (get_or-drop n s i 0) (h (n + i))

pub octets_zeros : (n : ℕ) → Octets (replicate n 0)
octets_zeros zero = octets_nil
octets_zeros (suc n) = octets_cons 0 (replicate n 0) (omega arith) (octets_zeros n)

pub octets_bytes : (k n : ℕ) → Octets (bytes k n)
unfolding bytes
octets_bytes zero n = octets_nil
octets_bytes (suc k) n = octets_append (bytes k (n / 256)) (n % 256 ∷ []) (octets_bytes k (n / 256)) (octets_cons (n % 256) [] (omega arith) octets_nil)

-- ---- the number of k octets, written again

pub bytes_word : (k : ℕ) (s : List ℕ) (at : ℕ) → Octets s → at + k ≤ length s → bytes k (word k s at) ≡ take k (drop at s)
unfolding word bytes
bytes_word zero s at h l = refl
bytes_word (suc k) s at h l =
    rw (digits_div (word k s at) (h (at + k)), digits_mod (word k s at) (h (at + k)), bytes_word k s at h (omega arith), take-suc (drop at s) k 0 (rw length-drop (omega arith)), get_or-drop at s k 0)

-- ---- a number read where it was written

module _ (k n : ℕ) (small : n < 256 ^ k) (p : List ℕ) {at : ℕ} (long : length p ≡ at) where
  pub read_last : word k (p ++ bytes k n) at ≡ n
  read_last =
      ap (word k (p ++ bytes k n)) (sym long ∙ sym (add-zero (length p)))
      ∙ word_right p (bytes k n) 0 k ∙ word_bytes k n ∙ mod-eq_of_lt small

  pub read_field : (q : List ℕ) → word k (p ++ (bytes k n ++ q)) at ≡ n
  read_field q =
      ap (word k (p ++ (bytes k n ++ q))) (sym long ∙ sym (add-zero (length p)))
      ∙ word_right p (bytes k n ++ q) 0 k ∙ word_left (bytes k n) q 0 k (omega (arith, length-bytes k n)) ∙ word_bytes k n ∙ mod-eq_of_lt small
