-- What came between two reports, over the width. Assumes nothing.
use Rattle.std.proofs.Common.{w16, to_z, ◌≡◌, ℕ, zero, suc, ◌+◌, ◌-◌, ◌%◌, ◌^◌, ◌<◌, ◌≤◌, ℤ, pos, negsuc, ◌-ℤ◌, neg_ℤ, ◌≤ℤ◌, ◌<ℤ◌, sym, ap, ◌∙◌, mod-eq_of_lt, pow-suc, arith, ltb→lt, leb→le, pow_pos, le-ltb, lt-ltb}
use native.Mathlib.Nat.{mod-eq-sub-mod}
use native.Mathlib.Decide.{dec_le}
use mir.ValLaws.{to_z_pos}
use Rattle.numbers.specs.Integers.{modulo}
use Rattle.numbers.specs.Since.{since, signed, carried, SinceExact, SignedExact}
use Rattle.numbers.proofs.Integers.{minus_pos, minus_neg, modulo_add, modulo_sub}

-- ---- what the program computes

-- the one number of the width that added to the earlier counter wraps to the later one
pub since_unique : (m : ℕ) (later earlier r : ℕ) → later < m → earlier < m → r < m → (r + earlier) % m ≡ later → r ≡ modulo m (pos later -ℤ pos earlier)
since_unique m later earlier r hl he hr e = go (dec_le m (r + earlier))
  where
    go : Dec (m ≤ r + earlier) → r ≡ modulo m (pos later -ℤ pos earlier)
    go (no g) =
        let s : r + earlier ≡ later = sym (mod-eq_of_lt (omega arith)) ∙ e in
        sym (ap (modulo m) (minus_pos later earlier (omega arith)) ∙ mod-eq_of_lt (omega arith) ∙ omega arith)
    go (yes g) =
        let s : r + earlier - m ≡ later = sym (mod-eq_of_lt (omega arith)) ∙ sym (mod-eq-sub-mod g) ∙ e in
        sym (ap (modulo m) (minus_neg later earlier (omega arith)) ∙ ap (λ (i : ℕ). m - suc i) (mod-eq_of_lt (omega arith)) ∙ omega arith)

-- ---- what it means

-- the counters that two reports carry differ as the true counts do
since_true : (width : ℕ) (later earlier : ℤ) → since width (carried width later) (carried width earlier) ≡ modulo (2 ^ width) (later -ℤ earlier)
unfolding since
since_true width later earlier =
    modulo_sub (2 ^ width) (pow_pos width) earlier (pos (modulo (2 ^ width) later)) ∙ modulo_add (2 ^ width) (pow_pos width) later (neg_ℤ earlier)

-- a difference in range is its own remainder
within : (m : ℕ) (d : ℤ) → pos 0 ≤ℤ d → d <ℤ pos m → pos (modulo m d) ≡ d
within m (pos n) l u = ap pos (mod-eq_of_lt (ltb→lt n m u.lt))
within m (negsuc n) l u = absurd l.le

pub since_exact : SinceExact
since_exact width later earlier l u = ap pos (since_true width later earlier) ∙ within (2 ^ width) (later -ℤ earlier) l u

-- the same for a signed one
module _ (w : ℕ) where
  width : suc w - 1 ≡ w
  width = omega arith

  twice : 2 ^ suc w ≡ 2 ^ w + 2 ^ w
  twice = pow-suc 2 w ∙ omega arith

  pub signed_low : (n : ℕ) → n < 2 ^ w → signed (suc w) n ≡ pos n
  unfolding signed
  signed_low n h = rw (width, lt-ltb n (2 ^ w) h)

  pub signed_high : (n : ℕ) → 2 ^ w ≤ n → signed (suc w) n ≡ pos n -ℤ pos (2 ^ suc w)
  unfolding signed
  signed_high n h = rw (width, le-ltb n (2 ^ w) h)

  signed_within : (d : ℤ) → neg_ℤ (pos (2 ^ w)) ≤ℤ d → d <ℤ pos (2 ^ w) → signed (suc w) (modulo (2 ^ suc w) d) ≡ d
  signed_within (pos n) l u =
      let h : n < 2 ^ w = ltb→lt n (2 ^ w) u.lt in
      ap (signed (suc w)) (mod-eq_of_lt (omega (arith, twice))) ∙ signed_low n h
  signed_within (negsuc n) l u =
      let h : n < 2 ^ w = below (2 ^ w) n (pow_pos w) l in
      ap (λ (i : ℕ). signed (suc w) (2 ^ suc w - suc i)) (mod-eq_of_lt (omega (arith, twice)))
      ∙ signed_high (2 ^ suc w - suc n) (omega (arith, twice)) ∙ minus_neg (2 ^ suc w - suc n) (2 ^ suc w) (omega (arith, twice)) ∙ ap negsuc (omega (arith, twice))
    where
      below : (m n : ℕ) → 0 < m → neg_ℤ (pos m) ≤ℤ negsuc n → n < m
      below zero n h l = absurd (omega arith)
      below (suc m) n h l = let q : n ≤ m = leb→le n m l.le in omega arith

-- what `cast_signed` gives of 16 bits
pub signed_cast : (n : ℕ) → n < 2 ^ 16 → to_z w16 n ≡ signed 16 n
signed_cast n h = go (dec_le (2 ^ 15) n)
  where
    go : Dec (2 ^ 15 ≤ n) → to_z w16 n ≡ signed 16 n
    go (no g) = to_z_pos w16 n (omega arith) ∙ sym (signed_low 15 n (omega arith))
    go (yes g) = rw (le-ltb n (2 ^ 15) g) (sym (signed_high 15 n g ∙ minus_neg n (2 ^ 16) h))

pub signed_exact : SignedExact
signed_exact w later earlier l u = ap (signed (suc w)) (since_true (suc w) later earlier) ∙ signed_within w (later -ℤ earlier) l u
