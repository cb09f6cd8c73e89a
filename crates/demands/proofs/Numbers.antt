-- Laws of integers near the highest number. Assumes nothing.
use mathlib.Core.Path.{◌≡◌, refl, sym, ap, ◌∙◌, subst}
use mathlib.Core.Bool.{Bool, true, false, cond}
use Prim.Native.Nat.{ℕ, suc, ◌+◌, ◌-◌, ◌≤◌, ◌<◌}
use native.Mathlib.Decide.{dec_le}
use native.Mathlib.Omega.{arith}
use lib.Dec.{T, leb→le}
use lib.IntN.{ℤ, pos, negsuc, neg_ℤ, ◌+ℤ◌, ◌-ℤ◌, +ℤ_comm, +ℤ-neg_ℤ_cancel}
use lib.Signed.{le_z, ◌≤ℤ◌}
use Rattle.numbers.specs.Integers.{modulo}
use Rattle.answers.proofs.Conditions.{is_true}
use Rattle.numbers.proofs.Integers.{minus_pos, minus_neg, le_z_refl, le_z_antisym, le_z_total, modulo_add}
use Rattle.source.specs.Arrivals.{extended, distance}
use Rattle.demands.specs.Calls.{wire_of, max_z}

-- ---- the greater of two

max_cases : (c : Bool) (x y : ℤ) (P : ℤ → Type 0) → (T c → P y) → ((T c → ⊥) → P x) → P (cond c y x)
max_cases true x y P f g = f tt
max_cases false x y P f g = g (λ t. t)

-- what holds of y where x ≤ y, and of x where y ≤ x, holds of the greater
pub max_z_cases : (x y : ℤ) (P : ℤ → Type 0) → (T (le_z x y) → P y) → (T (le_z y x) → P x) → P (max_z x y)
max_z_cases x y P f g = max_cases (le_z x y) x y P f (λ n. g (le_z_total x y n))

pub le_max_z_left : (x y : ℤ) → T (le_z x (max_z x y))
le_max_z_left x y = max_z_cases x y (λ z. T (le_z x z)) (λ t. t) (λ t. le_z_refl x)

pub le_max_z_right : (x y : ℤ) → T (le_z y (max_z x y))
le_max_z_right x y = max_z_cases x y (λ z. T (le_z y z)) (λ t. le_z_refl y) (λ t. t)

pub max_z_right : (x y : ℤ) → T (le_z x y) → max_z x y ≡ y
max_z_right x y t = ap (λ (c : Bool). cond c y x) (is_true (le_z x y) t)

pub max_z_left : (x y : ℤ) → T (le_z y x) → max_z x y ≡ x
max_z_left x y t = max_z_cases x y (λ z. z ≡ x) (λ u. le_z_antisym y x t u) (λ u. refl)

pub max_z_comm : (x y : ℤ) → max_z x y ≡ max_z y x
max_z_comm x y = max_z_cases x y (λ z. z ≡ max_z y x) (λ t. sym (max_z_left y x t)) (λ t. sym (max_z_right y x t))

-- ---- a number near n: at most 2,999 above, or at most 99 below

pub data Near (n : ℕ) (z : ℤ) : Type 0 where
  above : (d : ℕ) → 1 ≤ d → d ≤ 2999 → z ≡ pos (n + d) → Near n z
  below : (k : ℕ) → k < 100 → z ≡ pos n -ℤ pos k → Near n z

pub near : (n : ℕ) (z : ℤ) → (pos n -ℤ pos 99) ≤ℤ z → z ≤ℤ (pos n +ℤ pos 2999) → Near n z
near n (pos m) l u = go (dec_le m n) (dec_le 99 n)
  where
    hi : m ≤ n + 2999
    hi = leb→le m (n + 2999) u.le

    go : Dec (m ≤ n) → Dec (99 ≤ n) → Near n (pos m)
    go (no g) q = above (m - n) (omega arith) (omega (arith, hi)) (ap pos (omega arith))
    go (yes g) (no q) = below (n - m) (omega arith) (sym (minus_pos n (n - m) (omega arith) ∙ ap pos (omega arith)))
    go (yes g) (yes q) =
        let lo : n - 99 ≤ m = leb→le (n - 99) m (subst (λ (z : ℤ). T (le_z z (pos m))) (minus_pos n 99 q) l.le) in
        below (n - m) (omega arith) (sym (minus_pos n (n - m) (omega arith) ∙ ap pos (omega arith)))
near n (negsuc m) l u = go (dec_le 99 n)
  where
    go : Dec (99 ≤ n) → Near n (negsuc m)
    go (yes q) = absurd (subst (λ (z : ℤ). T (le_z z (negsuc m))) (minus_pos n 99 q) l.le)
    go (no q) =
        let lo : m ≤ 99 - suc n = leb→le m (99 - suc n) (subst (λ (z : ℤ). T (le_z z (negsuc m))) (minus_neg n 99 (omega arith)) l.le) in
        below (n + suc m) (omega arith) (sym (minus_neg n (n + suc m) (omega arith) ∙ ap negsuc (omega arith)))

-- ---- its distance from n, which the program computes from 16 bits of it

distance_true : (h z : ℤ) → distance (extended h) (wire_of z) ≡ modulo 65536 (z -ℤ h)
unfolding distance
distance_true h z = modulo_add 65536 (omega arith) z (neg_ℤ h)

pub distance_above : (n d : ℕ) → d ≤ 2999 → distance (extended (pos n)) (wire_of (pos (n + d))) ≡ d
distance_above n d h =
    distance_true (pos n) (pos (n + d)) ∙ ap (modulo 65536) (minus_pos (n + d) n (omega arith)) ∙ omega arith

pub distance_below : (n k : ℕ) → suc k < 100 → distance (extended (pos n)) (wire_of (pos n -ℤ pos (suc k))) ≡ 65536 - suc k
distance_below n k h =
    distance_true (pos n) (pos n -ℤ pos (suc k))
    ∙ ap (λ (z : ℤ). modulo 65536 (z -ℤ pos n)) (+ℤ_comm (pos n) (negsuc k)) ∙ ap (modulo 65536) (+ℤ-neg_ℤ_cancel (negsuc k) (pos n)) ∙ omega arith

pub distance_level : (n : ℕ) → distance (extended (pos n)) (wire_of (pos n)) ≡ 0
distance_level n = distance_true (pos n) (pos n) ∙ ap (modulo 65536) (minus_pos n n (omega arith)) ∙ omega arith
