-- Laws of the window's places: a part of them by its first place, and one place more in front. Assumes nothing.
use mathlib.Core.Path.{◌≡◌, refl, sym, ◌∙◌, ap}
use mathlib.Core.Bool.{Bool, true, false, ◌&&◌}
use mathlib.Core.List.{List, [], ◌∷◌, ◌++◌, map}
use Prim.Native.Nat.{ℕ, zero, suc, ◌+◌, ◌-◌, ◌*◌, ◌≤◌, ◌<◌, zero-le, min}
use native.Mathlib.Nat.{mul-le-mul, mul-le-mul_right, le_of_suc-le-suc, not-suc-le-zero}
use native.Mathlib.Numerals.{add-one}
use native.Mathlib.Omega.{arith}
use borrow.Author.Tests.{leb-true, leb-false}
use lib.Dec.{leb}
use lib.ListN.{length, length-map, get_or, take, drop, replicate}
use lib.Seq.{slice, slice_empty, length-take-le, take-append-le, drop-append-le, take-take}
use Rattle.answers.specs.Conditions.{all}
use Rattle.answers.proofs.Conditions.{and_left, and_right}
use Rattle.breaker.specs.declared.Interval.{Interval}
use Rattle.breaker.specs.Windows.{zero_interval, in_front, fraction_ok, length_ok, sum_of, W, P}
use Rattle.breaker.specs.Private.{interval_ok, sums_of, SumsOk}
use Rattle.std.specs.List.{list_all}
use Rattle.std.proofs.lemmas.List.{drop-replicate}

-- an array of structs is known by the list of their values
pub length-mapped : (X Y : Type 0) (f : X → Y) (l : List X) (n : ℕ) → length (map f l) ≡ n → length l ≡ n
length-mapped X Y f l n p = sym (length-map l f) ∙ p

-- ---- one place more

sum_suc : (f : Interval → ℕ) (i : ℕ) (xs : List Interval) → i < length xs → sum_of f (take i xs) + f (get_or xs i zero_interval) ≡ sum_of f (take (suc i) xs)
sum_suc f i [] h = absurd (omega arith)
sum_suc f zero (x ∷ xs) h = omega arith
sum_suc f (suc i) (x ∷ xs) h = omega (arith, sum_suc f i xs (omega arith))

pub sum_more : (f : Interval → ℕ) (i : ℕ) (xs : List Interval) → i < length xs → sum_of f (take i xs) + f (get_or xs i zero_interval) ≡ sum_of f (take (i + 1) xs)
sum_more f i xs h = rw add-one (sum_suc f i xs h)

pub all_at : (ok : Interval → Bool) (i : ℕ) (xs : List Interval) → i < length xs → all (map ok xs) ≡ true → ok (get_or xs i zero_interval) ≡ true
all_at ok i [] h e = absurd (omega arith)
all_at ok zero (x ∷ xs) h e = and_left (ok x) _ e
all_at ok (suc i) (x ∷ xs) h e = all_at ok i xs (omega arith) (and_right (ok x) _ e)

-- ---- the limits of all places

pub all_is : (ok : Interval → Bool) (xs : List Interval) → list_all ok xs ≡ all (map ok xs)
all_is ok [] = refl
all_is ok (x ∷ xs) = ap (λ (t : Bool). ok x && t) (all_is ok xs)

both_split : (a b e f : Bool) → ((a && b) && (e && f)) ≡ ((b && e) && (a && f))
both_split true true e f = refl
both_split true false e f = refl
both_split false true true f = refl
both_split false true false f = refl
both_split false false e f = refl

pub used_limits : (xs : List Interval) → list_all interval_ok xs ≡ (all (map fraction_ok xs) && all (map length_ok xs))
used_limits [] = refl
used_limits (x ∷ xs) =
    ap (λ (t : Bool). interval_ok x && t) (used_limits xs)
    ∙ both_split (length_ok x) (fraction_ok x) (all (map fraction_ok xs)) (all (map length_ok xs))

-- a sum of numbers that are at most `most`
pub sum_bound : (ok : Interval → Bool) (f : Interval → ℕ) (most : ℕ) → ((x : Interval) → ok x ≡ true → f x ≤ most)
    → (xs : List Interval) → all (map ok xs) ≡ true → sum_of f xs ≤ length xs * most
sum_bound ok f most below [] h = zero-le
sum_bound ok f most below (x ∷ xs) h =
    let a : f x ≤ most = below x (and_left (ok x) _ h) in
    let b : sum_of f xs ≤ length xs * most = sum_bound ok f most below xs (and_right (ok x) _ h) in
    omega arith

-- an interval in its limits
module _ (x : Interval) (h : interval_ok x ≡ true) where
  pub length-least : 1 ≤ x.length
  length-least = leb-true _ _ (and_left (leb 1 x.length) _ (and_left (length_ok x) _ h))

  pub length_most : x.length ≤ 10000000
  length_most = leb-true _ _ (and_right (leb 1 x.length) _ (and_left (length_ok x) _ h))

  pub fraction_most : x.fraction ≤ 255
  fraction_most = leb-true _ _ (and_right (length_ok x) _ h)

  pub product_most : x.fraction * x.length ≤ 2550000000
  product_most = mul-le-mul fraction_most length_most

pub used_intervals : (xs : List Interval) → all (map fraction_ok xs) ≡ true → all (map length_ok xs) ≡ true → all (map interval_ok xs) ≡ true
used_intervals [] h l = refl
used_intervals (x ∷ xs) h l =
    λ i. (and_left (length_ok x) _ l i && and_left (fraction_ok x) _ h i) && used_intervals xs (and_right (fraction_ok x) _ h) (and_right (length_ok x) _ l) i

-- ---- the sums of intervals in their limits

-- P is at most 255 times W, since each fraction is at most 255
p_share : (xs : List Interval) → all (map interval_ok xs) ≡ true → P xs ≤ 255 * W xs
p_share [] h = zero-le
p_share (x ∷ xs) h =
    let a : x.fraction * x.length ≤ 255 * x.length = mul-le-mul_right x.length (fraction_most x (and_left (interval_ok x) _ h)) in
    let b : P xs ≤ 255 * W xs = p_share xs (and_right (interval_ok x) _ h) in
    omega arith

w_some : (xs : List Interval) → 0 < length xs → all (map interval_ok xs) ≡ true → 0 < W xs
w_some [] l h = l
w_some (x ∷ xs) l h = let a = length-least x (and_left (interval_ok x) _ h) in omega arith

pub sums_ok : (k : ℕ) (xs : List Interval) → 1 ≤ k → k ≤ 32 → length xs ≡ 32 → all (map interval_ok (take k xs)) ≡ true → SumsOk (sums_of (take k xs))
sums_ok k xs l h e a =
    let n : length (take k xs) ≡ k = length-take-le k xs (omega arith) in
    record {
      some = w_some (take k xs) (omega arith) a;
      few = omega (arith, sum_bound interval_ok (λ (x : Interval). x.length) 10000000 length_most (take k xs) a);
      share = p_share (take k xs) a;
    }

-- ---- one place more in front

-- the first k - 1 places moved back by one, in front of zeros
pub in_front_is : (k : ℕ) (x : Interval) (xs : List Interval) → 1 ≤ k → k ≤ 32 → x ∷ (take (k - 1) xs ++ drop (k - 1) (replicate 31 zero_interval)) ≡ in_front k x xs
in_front_is zero x xs h l = absurd (omega arith)
in_front_is (suc k) x xs h l =
    let e : suc k - 1 ≡ k = omega arith in
    let z : 31 - k ≡ 32 - suc k = omega arith in
    rw (e, ← z) (ap (λ (zs : List Interval). x ∷ (take k xs ++ zs)) (drop-replicate k 31 zero_interval))

-- ---- what holds of all places, with one more in front

module _ (ok : Interval → Bool) where
  all_append : (xs ys : List Interval) → all (map ok xs) ≡ true → all (map ok ys) ≡ true → all (map ok (xs ++ ys)) ≡ true
  all_append [] ys h k = k
  all_append (x ∷ xs) ys h k = λ i. and_left (ok x) _ h i && all_append xs ys (and_right (ok x) _ h) k i

  all_replicate : (n : ℕ) (x : Interval) → ok x ≡ true → all (map ok (replicate n x)) ≡ true
  all_replicate zero x h = refl
  all_replicate (suc n) x h = λ i. h i && all_replicate n x h i

  all_take : (n m : ℕ) (xs : List Interval) → n ≤ m → all (map ok (take m xs)) ≡ true → all (map ok (take n xs)) ≡ true
  all_take zero m xs l h = refl
  all_take (suc n) zero xs l h = absurd (not-suc-le-zero l)
  all_take (suc n) (suc m) [] l h = refl
  all_take (suc n) (suc m) (x ∷ xs) l h =
      λ i. and_left (ok x) _ h i && all_take n m xs (le_of_suc-le-suc l) (and_right (ok x) _ h) i

  all_part : (f n : ℕ) (xs : List Interval) → all (map ok (drop f xs)) ≡ true → all (map ok (drop f (take n xs))) ≡ true
  all_part zero zero xs h = refl
  all_part zero (suc n) [] h = refl
  all_part zero (suc n) (x ∷ xs) h = λ i. and_left (ok x) _ h i && all_part zero n xs (and_right (ok x) _ h) i
  all_part (suc f) zero xs h = refl
  all_part (suc f) (suc n) [] h = refl
  all_part (suc f) (suc n) (x ∷ xs) h = all_part f n xs h

  -- the first places
  pub front_first : (n k u : ℕ) (x : Interval) (xs : List Interval) → n ≤ k → k ≤ suc (length xs) → n ≤ u + 1 → ok x ≡ true
      → all (map ok (take u xs)) ≡ true → all (map ok (take n (in_front k x xs))) ≡ true
  front_first n k u x xs h₁ h₂ h₃ e a =
      let l : length (take k (x ∷ xs)) ≡ k = length-take-le k (x ∷ xs) h₂ in
      ap (λ (t : List Interval). all (map ok t)) (take-append-le n (take k (x ∷ xs)) (replicate (32 - k) zero_interval) (omega arith) ∙ take-take n k (x ∷ xs) h₁)
      ∙ front n h₃
    where
      front : (n : ℕ) → n ≤ u + 1 → all (map ok (take n (x ∷ xs))) ≡ true
      front zero q = refl
      front (suc n) q = λ i. e i && all_take n u xs (omega arith) a i

  -- the places behind those in use
  pub front_rest : (k u : ℕ) (x : Interval) (xs : List Interval) → k ≤ suc (length xs) → ok zero_interval ≡ true
      → all (map ok (drop u xs)) ≡ true → all (map ok (drop (min k (u + 1)) (in_front k x xs))) ≡ true
  front_rest k u x xs h e a =
      let l : length (take k (x ∷ xs)) ≡ k = length-take-le k (x ∷ xs) h in
      ap (λ (t : List Interval). all (map ok t)) (drop-append-le (min k (u + 1)) (take k (x ∷ xs)) (replicate (32 - k) zero_interval) (omega arith))
      ∙ all_append (drop (min k (u + 1)) (take k (x ∷ xs))) (replicate (32 - k) zero_interval) (go (leb k (u + 1)) refl) (all_replicate (32 - k) zero_interval e)
    where
      behind : (k : ℕ) → all (map ok (drop (suc u) (take k (x ∷ xs)))) ≡ true
      behind zero = refl
      behind (suc k) = all_part u k xs a

      go : (t : Bool) → leb k (u + 1) ≡ t → all (map ok (drop (min k (u + 1)) (take k (x ∷ xs)))) ≡ true
      go true q =
          let l : k ≤ u + 1 = leb-true k (u + 1) q in
          let m : min k (u + 1) ≡ k = omega arith in
          ap (λ (n : ℕ). all (map ok (slice n k (x ∷ xs)))) m ∙ ap (λ (t : List Interval). all (map ok t)) (slice_empty k (x ∷ xs))
      go false q =
          let l : u + 1 < k = leb-false k (u + 1) q in
          let m : min k (u + 1) ≡ suc u = omega arith in
          ap (λ (n : ℕ). all (map ok (slice n k (x ∷ xs)))) m ∙ behind k
