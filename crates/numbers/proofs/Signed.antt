-- What code reads of a signed number: an i64 in a test, in a cast, and turned by `(-(z + 1)) as u64 + 1`. Assumes nothing.
use Rattle.std.proofs.Common.{◌≡◌, ℕ, zero, suc, ◌+◌, ◌-◌, ◌%◌, ◌^◌, ◌<◌, ◌≤◌, Bool, true, false, not, T, ltb, leb, ℤ, pos, negsuc, ◌+ℤ◌, ◌-ℤ◌, neg_ℤ, nat_abs, sym, refl, ap, ◌∙◌, add-one, arith, w64, Fits, SFits, to_z, of_z, ltb-false, ltb-true, le-leb}
use mathlib.Core.Path.{subst⁻¹}
use borrow.Author.Tests.{lt-leb}
use lib.IntN.{+ℤ_one, +ℤ_idl, neg_ℤ-neg_ℤ}
use lib.Signed.{le_z, lt_z, mag, non_neg, pos-nat_abs}
use Rattle.numbers.specs.Integers.{modulo}
use mir.ValLaws.{to_z-of_z}

-- a number as code reads it back from its bits
abbrev pub seen : ℤ → ℤ
seen z = to_z w64 (of_z w64 z)

pub seen_is : (z : ℤ) → SFits w64 z → seen z ≡ z
seen_is z f = to_z-of_z w64 z f

-- ---- tests

nat_le_not_lt : (a b : ℕ) (t : Bool) → ltb b a ≡ t → leb a b ≡ not t
nat_le_not_lt a b true e = lt-leb a b (ltb-true b a e)
nat_le_not_lt a b false e = le-leb a b (ltb-false b a e)

pub le_not_lt : (a b : ℤ) → le_z a b ≡ not (lt_z b a)
le_not_lt (pos a) (pos b) = nat_le_not_lt a b (ltb b a) refl
le_not_lt (pos a) (negsuc b) = refl
le_not_lt (negsuc a) (pos b) = refl
le_not_lt (negsuc a) (negsuc b) = nat_le_not_lt b a (ltb a b) refl

-- what a test `a < b` shows
pub lt_seen : (a b : ℤ) (t : Bool) → SFits w64 a → SFits w64 b → lt_z (seen a) (seen b) ≡ t → le_z b a ≡ not t
lt_seen a b t f g e = le_not_lt b a ∙ ap not (rw (seen_is a f, seen_is b g) at e)

-- ---- casts

natural_fits : (z : ℤ) → SFits w64 z → T (non_neg z) → T (non_neg z) × Fits w64 (nat_abs z)
natural_fits (pos n) f t = (tt, omega (arith, f.sfits))
natural_fits (negsuc n) f t = absurd t

-- the cast to u64 of a number that is not negative
pub natural_cast : (z : ℤ) → SFits w64 z → T (non_neg z) → T (non_neg (seen z)) × Fits w64 (nat_abs (seen z))
natural_cast z f t = rw (seen_is z f) (natural_fits z f t)

pub natural_seen : (z : ℤ) → SFits w64 z → T (non_neg z) → z ≡ pos (nat_abs (seen z))
natural_seen z f t = rw (seen_is z f) (sym (pos-nat_abs z t))

pub not_below_zero : (z : ℤ) → le_z (pos 0) z ≡ true → T (non_neg z)
not_below_zero (pos n) e = tt
not_below_zero (negsuc n) e = let z : ◌≡◌ {A = ℕ} 0 1 = cc in absurd (omega arith)

-- ---- the size of a negative number

plus_one : (k : ℕ) → negsuc k +ℤ pos 1 ≡ neg_ℤ (pos k)
plus_one zero = refl
plus_one (suc k) = +ℤ_one (negsuc (suc k))

mag_neg : (k : ℕ) → mag (neg_ℤ (pos k)) ≤ k
mag_neg zero = omega arith
mag_neg (suc k) = omega arith

abbrev pub turned : ℤ → ℤ
turned z = pos 0 -ℤ seen (seen z +ℤ pos 1)

pub record Negative (z : ℤ) : Type 0 where
  pub less : ℕ
  pub small : less < 2 ^ 63
  pub value : z ≡ negsuc less
  pub is : less + 1 ≡ nat_abs z
  pub plus_fits : SFits w64 (seen z +ℤ pos 1)
  pub minus_fits : SFits w64 (turned z)
  pub turned_is : seen (turned z) ≡ pos less

pub negative : (z : ℤ) → SFits w64 z → lt_z (seen z) (pos 0) ≡ true → Negative z
negative (pos n) f h =
    absurd (omega (arith, ltb-true n 0 (ap (λ (z : ℤ). lt_z z (pos 0)) (sym (seen_is (pos n) f)) ∙ h)))
negative (negsuc k) f h =
    let small : k < 2 ^ 63 = f.sfits in
    let one : seen (negsuc k) +ℤ pos 1 ≡ neg_ℤ (pos k) = ap (λ (z : ℤ). z +ℤ pos 1) (seen_is (negsuc k) f) ∙ plus_one k in
    let fits_one : SFits w64 (neg_ℤ (pos k)) = record { sfits = omega (arith, mag_neg k) } in
    let back : seen (seen (negsuc k) +ℤ pos 1) ≡ neg_ℤ (pos k) = ap seen one ∙ seen_is (neg_ℤ (pos k)) fits_one in
    let whole : turned (negsuc k) ≡ pos k =
    ap (λ (z : ℤ). pos 0 -ℤ z) back ∙ ap (λ (z : ℤ). pos 0 +ℤ z) (neg_ℤ-neg_ℤ (pos k)) ∙ +ℤ_idl (pos k) in
    let fits-k : SFits w64 (pos k) = record { sfits = small } in
    record {
      less = k;
      small = small;
      value = refl;
      is = add-one k;
      plus_fits = subst⁻¹ (λ (z : ℤ). SFits w64 z) one fits_one;
      minus_fits = subst⁻¹ (λ (z : ℤ). SFits w64 z) whole fits-k;
      turned_is = ap seen whole ∙ seen_is (pos k) fits-k;
    }

-- the casts of a negative number, turned
module _ {z : ℤ} (n : Negative z) where
  pub turned_cast : T (non_neg (seen (turned z))) × Fits w64 (nat_abs (seen (turned z)))
  turned_cast = subst⁻¹ (λ (y : ℤ). T (non_neg y) × Fits w64 (nat_abs y)) n.turned_is (tt, record { fits = omega (arith, n.small) })

  pub turned_less : nat_abs (seen (turned z)) ≡ n.less
  turned_less = ap nat_abs n.turned_is

  -- a negative number modulo m
  pub negative_modulo : (m : ℕ) {r : ℕ} → r ≡ m - 1 - nat_abs (seen (turned z)) % m → 1 ≤ m → r ≡ modulo m z
  negative_modulo m e h =
      e ∙ ap (λ (k : ℕ). m - 1 - k % m) turned_less ∙ one_less (n.less % m) ∙ ap (modulo m) (sym n.value)
    where
      one_less : (k : ℕ) → m - 1 - k ≡ m - suc k
      one_less k = omega arith

-- a number that is not negative modulo m
pub natural_modulo : (m : ℕ) (z : ℤ) → SFits w64 z → T (non_neg z) → {r : ℕ} → r ≡ nat_abs (seen z) % m → r ≡ modulo m z
natural_modulo m z f t e = e ∙ ap (modulo m) (sym (natural_seen z f t))

pub not_negative : (z : ℤ) → SFits w64 z → lt_z (seen z) (pos 0) ≡ false → T (non_neg z)
not_negative z f h = not_below_zero z (lt_seen z (pos 0) false f (record { sfits = omega arith }) h)
