-- Laws of the intervals' words, two for each interval. Assumes nothing.
use mathlib.Core.Path.{◌≡◌, refl, sym, ap, ap₂, ◌∙◌}
use mathlib.Core.List.{List, [], ◌∷◌, ◌++◌}
use Prim.Native.Nat.{ℕ, zero, suc, ◌+◌, ◌-◌, ◌*◌, ◌<◌}
use native.Mathlib.Nat.{add-zero}
use native.Mathlib.Numerals.{add-one}
use native.Mathlib.Omega.{arith}
use lib.ListN.{length, drop, take, get_or, set}
use lib.Seq.{sets, drop-cons, get_or-drop, drop-drop, take-suc-set, append_snoc}
use Rattle.answers.proofs.Stores.{sets-turn}
use Rattle.breaker.specs.declared.Interval.{Interval}
use Rattle.breaker.specs.declared.Breaker.{Breaker}
use Rattle.breaker.specs.Windows.{zero_interval}
use Rattle.lent.specs.BreakerWords.{interval_words, intervals_of, breaker_words}

-- ---- stores

-- a turn of a loop that stores the words of `new` from `at` on
pub put_turn : (at i : ℕ) (new l : List ℕ) {out : List ℕ} → i < length new → out ≡ set l (at + i) (get_or new i 0)
    → sets out (at + (i + 1)) (drop (i + 1) new) ≡ sets l (at + i) (drop i new)
put_turn at i new l h e =
    let q : at + (i + 1) ≡ at + i + 1 = omega arith in
    ap₂ (λ (o : List ℕ) (n : ℕ). sets o n (drop (i + 1) new)) e q ∙ sets-turn l (at + i) new i h

module _ (xs : List Interval) (i : ℕ) (h : i < length xs) where
  -- the words of the intervals from place i on
  next_words_lem : interval_words (drop i xs) ≡ (get_or xs i zero_interval).length ∷ (get_or xs i zero_interval).fraction ∷ interval_words (drop (i + 1) xs)
  unfolding interval_words
  next_words_lem = rw add-one (ap interval_words (drop-cons xs i zero_interval h))

  -- a turn of a loop that stores them
  pub store_turn : (l : List ℕ) (at : ℕ)
      → sets (set (set l at (get_or xs i zero_interval).length) (at + 1) (get_or xs i zero_interval).fraction) (at + 2) (interval_words (drop (i + 1) xs))
      ≡ sets l at (interval_words (drop i xs))
  store_turn l at =
      let x = get_or xs i zero_interval in
      let q : at + 2 ≡ suc (suc at) = omega arith in
      ap₂ (λ (n k : ℕ). sets (set (set l at x.length) n x.fraction) k (interval_words (drop (i + 1) xs))) (add-one at) q
      ∙ sym (ap (sets l at) next_words_lem)

-- ---- reads

abbrev pub interval_at : List ℕ → ℕ → Interval
interval_at ws at = record { length = get_or ws at 0; fraction = get_or ws (at + 1) 0 }

-- the intervals of the words from `at` on
next_interval : (n at : ℕ) (ws : List ℕ) → intervals_of (suc n) (drop at ws) ≡ interval_at ws at ∷ intervals_of n (drop (at + 2) ws)
unfolding intervals_of
next_interval n at ws =
    let a : get_or (drop at ws) 0 0 ≡ get_or ws at 0 = get_or-drop at ws 0 0 ∙ ap (λ (k : ℕ). get_or ws k 0) (add-zero at) in
    λ j. record { length = a j; fraction = get_or-drop at ws 1 0 j } ∷ intervals_of n (drop-drop 2 at ws j)

-- a turn of a loop that takes m intervals
pub load_turn : (m i : ℕ) (next : List Interval) (ws : List ℕ) (at : ℕ) → i < m → i < length next
    → take (i + 1) (set next i (interval_at ws at)) ++ intervals_of (m - (i + 1)) (drop (at + 2) ws) ≡ take i next ++ intervals_of (m - i) (drop at ws)
load_turn m i next ws at h k =
    let e : m - i ≡ suc (m - (i + 1)) = omega arith in
    let x = interval_at ws at in
    let rest = intervals_of (m - (i + 1)) (drop (at + 2) ws) in
    ap (λ (n : ℕ). take n (set next i x) ++ rest) (add-one i)
    ∙ ap (λ (t : List Interval). t ++ rest) (take-suc-set next i x k)
    ∙ append_snoc (take i next) x rest
    ∙ ap (λ (t : List Interval). take i next ++ t) (sym (next_interval (m - (i + 1)) at ws))
    ∙ ap (λ (n : ℕ). take i next ++ intervals_of n (drop at ws)) (sym e)

-- ---- lengths

length-words : (xs : List Interval) → length (interval_words xs) ≡ 2 * length xs
unfolding interval_words
length-words [] = refl
length-words (x ∷ xs) = omega (arith, length-words xs)

pub length-intervals : (n : ℕ) (ws : List ℕ) → length (intervals_of n ws) ≡ n
unfolding intervals_of
length-intervals zero ws = refl
length-intervals (suc n) ws = ap suc (length-intervals n (drop 2 ws))

pub length-breaker : (b : Breaker) → length b.window.intervals ≡ 32 → length (breaker_words b) ≡ 77
unfolding breaker_words
length-breaker b h = omega (arith, length-words b.window.intervals)

-- ---- both ways

pub intervals_back : (n : ℕ) (xs : List Interval) → length xs ≡ n → intervals_of n (interval_words xs) ≡ xs
unfolding intervals_of interval_words
intervals_back zero [] h = refl
intervals_back zero (x ∷ xs) h = absurd (omega arith)
intervals_back (suc n) [] h = absurd (omega arith)
intervals_back (suc n) (x ∷ xs) h = ap (λ (t : List Interval). x ∷ t) (intervals_back n xs (omega arith))

pub words_back : (n : ℕ) (ws : List ℕ) → length ws ≡ n + n → interval_words (intervals_of n ws) ≡ ws
unfolding intervals_of interval_words
words_back zero [] h = refl
words_back zero (a ∷ ws) h = absurd (omega arith)
words_back (suc n) [] h = absurd (omega arith)
words_back (suc n) (a ∷ []) h = absurd (omega arith)
words_back (suc n) (a ∷ b ∷ ws) h = ap (λ (t : List ℕ). a ∷ b ∷ t) (words_back n ws (omega arith))
