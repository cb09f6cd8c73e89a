-- The fraction that ECN counts give: where it is the greatest, its bound and its order. Assumes nothing.
use mathlib.Core.Path.{◌≡◌, ◌∙◌, ap}
use mathlib.Core.Bool.{Bool, true, cond}
use mathlib.Core.List.{[], ◌∷◌}
use Prim.Native.Nat.{ℕ, zero, suc, ◌+◌, ◌*◌, ◌/◌, ◌^◌, ◌≤◌, ◌<◌, min, zero-le}
use native.Mathlib.Nat.{le_trans, le_refl, le-div_iff_mul-le, div-lt_iff_lt-mul, div-mul-le_self, mul-div_cancel, min-eq_left, min-eq_right}
use native.Mathlib.Omega.{arith}
use borrow.Author.Tests.{leb-true, ne_eqb}
use lib.Dec.{leb, eqb, leb→le}
use lib.IntN.{ℤ, pos, negsuc, nat_abs}
use lib.ListN.{get_or}
use lib.Signed.{◌≤ℤ◌}
use Rattle.answers.proofs.Conditions.{all_true}
use Rattle.breaker.specs.declared.EcnCounts.{EcnCounts}
use Rattle.breaker.specs.declared.Loss.TheVariants.{Fraction, Counts}
use Rattle.breaker.specs.Limits.{counts_ok}
use Rattle.breaker.specs.FractionLost.{at_least_zero, counts_fraction}
use Rattle.breaker.specs.Theorems.{FractionInRange, MoreIsNoLess, AllMarked}

-- ---- the limits

module _ (c : EcnCounts) (h : counts_ok c ≡ true) where
  part : (i : ℕ) → get_or (leb (nat_abs c.lost) (2 ^ 31) ∷ leb c.marked (2 ^ 31) ∷ leb c.expected (2 ^ 31) ∷ []) i true ≡ true
  unfolding counts_ok
  part i = all_true (leb (nat_abs c.lost) (2 ^ 31) ∷ leb c.marked (2 ^ 31) ∷ leb c.expected (2 ^ 31) ∷ []) i h

  pub lost_high : at_least_zero c.lost ≤ 2 ^ 31
  lost_high = le_trans (no_more c.lost) (leb-true _ _ (part 0))
    where
      no_more : (z : ℤ) → at_least_zero z ≤ nat_abs z
      no_more (pos n) = le_refl n
      no_more (negsuc n) = zero-le

  pub marked_high : c.marked ≤ 2 ^ 31
  marked_high = leb-true _ _ (part 1)

  pub expected_high : c.expected ≤ 2 ^ 31
  expected_high = leb-true _ _ (part 2)

-- ---- the fraction of n packets lost or marked of e expected

abbrev pub share : ℕ → ℕ → ℕ
share n e = cond (eqb e 0) 0 (min (256 * min n e / e) 255)

share_of_some : (n e : ℕ) → 0 < e → share n e ≡ min (256 * min n e / e) 255
share_of_some n e h = ap (λ (t : Bool). cond t 0 (min (256 * min n e / e) 255)) (ne_eqb e 0 (λ q. omega arith))

-- as many as were expected, or more
pub share_of_all : (n e : ℕ) → 0 < e → e ≤ n → share n e ≡ 255
share_of_all n e h l =
    share_of_some n e h ∙ ap (λ (k : ℕ). min (256 * k / e) 255) (min-eq_right l) ∙ ap (λ (k : ℕ). min k 255) (mul-div_cancel 256 h)

-- fewer
pub share_of_part : (n e : ℕ) → n < e → share n e ≡ 256 * n / e
share_of_part n e l =
    let h : 0 < e = omega arith in
    let below : 256 * n < 256 * e = omega arith in
    let small : 256 * n / e < 256 = (div-lt_iff_lt-mul h).1 below in
    share_of_some n e h ∙ ap (λ (k : ℕ). min (256 * k / e) 255) (min-eq_left (omega arith)) ∙ min-eq_left (omega arith)

share_most : (n e : ℕ) → share n e ≤ 255
share_most n zero = zero-le
share_most n (suc e) = rw (share_of_some n (suc e) (omega arith)) (omega arith)

share_rises : (n m e : ℕ) → n ≤ m → share n e ≤ share m e
share_rises n m zero h = zero-le
share_rises n m (suc e) h =
    let d = suc e in
    let some : 0 < d = omega arith in
    let few : 256 * min n d ≤ 256 * min m d = omega arith in
    let less : 256 * min n d / d ≤ 256 * min m d / d = (le-div_iff_mul-le some).1 (le_trans (div-mul-le_self (256 * min n d) d) few) in
    rw (share_of_some n d some, share_of_some m d some) (omega arith)

-- ---- the theorems

-- a smaller number has no more above 0
rises : (a b : ℤ) → a ≤ℤ b → at_least_zero a ≤ at_least_zero b
rises (pos a) (pos b) h = leb→le a b h.le
rises (pos a) (negsuc b) h = absurd h.le
rises (negsuc a) b h = zero-le

pub fraction_in_range : FractionInRange
unfolding counts_fraction
fraction_in_range (Fraction f) h = leb-true f 255 h
fraction_in_range (Counts c) h = share_most (at_least_zero c.lost + c.marked) c.expected

pub more_is_no_less : MoreIsNoLess
unfolding counts_fraction
more_is_no_less c d e lost marked =
    let n = at_least_zero c.lost + c.marked in
    let m = at_least_zero d.lost + d.marked in
    let l = rises c.lost d.lost lost in
    let more : n ≤ m = omega arith in
    rw e (share_rises n m d.expected more)

pub all_marked : AllMarked
unfolding counts_fraction
all_marked n h = share_of_all (0 + n) n h (omega arith)
