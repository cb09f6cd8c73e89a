-- The bytes of a number. Assumes nothing.
use mathlib.Core.Path.{◌≡◌, refl, sym, ap, ◌∙◌}
use mathlib.Core.Bool.{Bool, true, false}
use Prim.Native.Nat.{ℕ, zero, suc, ◌+◌, ◌*◌, ◌/◌, ◌%◌, ◌^◌, ◌≤◌, ◌<◌}
use native.Mathlib.Nat.{add-zero, add_assoc, pow-succ', div-div-eq-div-mul}
use native.Mathlib.Omega.{arith}
use lib.Dec.{eqb, eqb-zero-suc, eqb-suc-zero, eqb-suc-suc}
use Rattle.source.specs.Places.{bit}
use Rattle.engine.specs.Lean.{byte, unit, cleared}

byte_next : (k n : ℕ) → byte (suc k) n ≡ byte k (n / 256)
byte_next k n = ap (λ (m : ℕ). n / m % 256) (pow-succ' 256 k) ∙ ap (λ (q : ℕ). q % 256) (sym (div-div-eq-div-mul n 256 (256 ^ k)))

-- one more in a byte that is not full raises that byte alone
pub byte_raised : (n j k : ℕ) → byte j n < 255 → byte k (n + 256 ^ j) ≡ byte k n + bit (eqb j k)
byte_raised n zero zero h = omega arith
byte_raised n zero (suc k) h =
    let low : (n + 1) / 256 ≡ n / 256 = omega arith in
    byte_next k (n + 1) ∙ ap (byte k) low ∙ sym (byte_next k n) ∙ sym (rw (eqb-zero-suc k) (add-zero (byte (suc k) n)))
byte_raised n (suc j) zero h = rw (eqb-suc-zero j) (omega (arith, pow-succ' 256 j))
byte_raised n (suc j) (suc k) h =
    let high : (n + 256 ^ suc j) / 256 ≡ n / 256 + 256 ^ j = omega (arith, pow-succ' 256 j) in
    let not_full : byte j (n / 256) < 255 = rw (byte_next j n) at h in
    byte_next k (n + 256 ^ suc j) ∙ ap (byte k) high ∙ byte_raised (n / 256) j k not_full ∙ rw (eqb-suc-suc j k, byte_next k n)

-- one in the byte of a mark, as the shift makes it
pub shifted_unit : (mark : ℕ) → mark ≤ 3 → (65536 * 2 ^ (8 * mark) % 2 ^ 64 ≡ unit mark) × (65536 * 2 ^ (8 * mark) % 2 ^ 64 ≤ 2 ^ 40)
shifted_unit zero m = (refl, omega arith)
shifted_unit (suc zero) m = (refl, omega arith)
shifted_unit (suc (suc zero)) m = (refl, omega arith)
shifted_unit (suc (suc (suc zero))) m = (refl, omega arith)
shifted_unit (suc (suc (suc (suc mark)))) m = absurd (omega arith)

-- what an arrival with a mark adds to the counts, and 1 to the duplicates where it is one
abbrev pub units : ℕ → Bool → ℕ
units mark again = unit mark + bit again * 256

-- the bytes of the marks are no others
pub mark_byte : (mark : ℕ) → mark ≤ 3
    → (bit (eqb (2 + mark) 0) ≡ 0) × (bit (eqb (2 + mark) 1) ≡ 0) × (bit (eqb (2 + mark) 2) ≡ bit (eqb mark 0)) × (bit (eqb (2 + mark) 3) ≡ bit (eqb mark 1))
    × (bit (eqb (2 + mark) 4) ≡ bit (eqb mark 2)) × (bit (eqb (2 + mark) 5) ≡ bit (eqb mark 3)) × (bit (eqb (2 + mark) 6) ≡ 0)
mark_byte zero m = (refl, refl, refl, refl, refl, refl, refl)
mark_byte (suc zero) m = (refl, refl, refl, refl, refl, refl, refl)
mark_byte (suc (suc zero)) m = (refl, refl, refl, refl, refl, refl, refl)
mark_byte (suc (suc (suc zero))) m = (refl, refl, refl, refl, refl, refl, refl)
mark_byte (suc (suc (suc (suc mark)))) m = absurd (omega arith)

module _ (n mark : ℕ) (m : mark ≤ 3) (small : (k : ℕ) → k ≤ 6 → byte k n < 255) where
  marked : (k : ℕ) → byte k (n + unit mark) ≡ byte k n + bit (eqb (2 + mark) k)
  marked k = byte_raised n (2 + mark) k (small (2 + mark) (omega arith))

  pub byte_units : (again : Bool) (k : ℕ) → byte k (n + units mark again) ≡ byte k n + (bit (eqb (2 + mark) k) + bit again * bit (eqb 1 k))
  byte_units false k =
      let same : n + units mark false ≡ n + unit mark = omega arith in
      let none : bit (eqb (2 + mark) k) ≡ bit (eqb (2 + mark) k) + 0 * bit (eqb 1 k) = omega arith in
      ap (byte k) same ∙ marked k ∙ ap (λ (b : ℕ). byte k n + b) none
  byte_units true k =
      let twice : n + units mark true ≡ n + unit mark + 256 ^ 1 = omega arith in
      let not_full : byte 1 (n + unit mark) < 255 = rw (marked 1, (mark_byte mark m).1, add-zero) (small 1 (omega arith)) in
      let one : bit (eqb 1 k) ≡ 1 * bit (eqb 1 k) = omega arith in
      ap (byte k) twice ∙ byte_raised (n + unit mark) 1 k not_full ∙ ap (λ (b : ℕ). b + bit (eqb 1 k)) (marked k)
      ∙ add_assoc (byte k n) (bit (eqb (2 + mark) k)) (bit (eqb 1 k)) ∙ ap (λ (b : ℕ). byte k n + (bit (eqb (2 + mark) k) + b)) one

-- a byte of the counts after a restart
pub record Cleared (n c : ℕ) : Type 0 where
  pub zeroth : byte 0 c ≡ byte 0 n
  pub first : byte 1 c ≡ 0
  pub second : byte 2 c ≡ 0
  pub third : byte 3 c ≡ 0
  pub fourth : byte 4 c ≡ 0
  pub fifth : byte 5 c ≡ 0
  pub sixth : byte 6 c ≡ byte 6 n

pub cleared_bytes : (n : ℕ) → Cleared n (cleared n)
cleared_bytes n = record {
  zeroth = omega arith;
  first = omega arith;
  second = omega arith;
  third = omega arith;
  fourth = omega arith;
  fifth = omega arith;
  sixth = omega arith;
}
