-- How the full condition depends on the loss. Assumes nothing.
use mathlib.Core.Path.{◌≡◌, ap}
use mathlib.Core.Logic.{⊎_elim}
use Prim.Native.Nat.{ℕ, ◌*◌, ◌/◌, ◌^◌, ◌<◌, ◌≤◌}
use native.Mathlib.Nat.{add-le-add, mul-le-mul, mul-le-mul_left, mul-le-mul_right, lt_of_lt_of_le, eq-zero-or-pos, div-le_of_le-mul, le-div_iff_mul-le, div-mul-le_self, lt-div-mul-add, div-zero}
use native.Mathlib.Omega.{arith}
use borrow.Author.Tests.{lt-ltb, le-ltb, ltb-true}
use Rattle.roots.specs.Roots.{scaled_root}
use Rattle.roots.specs.FullCondition.{loss_of, scaled_denominator}
use Rattle.roots.specs.Theorems.{NeverAtZero, GreaterLossTriggers, LossIsFloor, LossGrows, LossAtMost}
use Rattle.roots.proofs.Floors.{one_floor, never_fall}

-- ---- the floor

pub loss_is_floor : LossIsFloor
loss_is_floor P W h = (omega (arith, div-mul-le_self (4 * P) W), omega (arith, lt-div-mul-add {a = 4 * P} h))

-- ---- at 0

root_zero : (bottom : ℕ) → 0 < bottom → 0 ≡ scaled_root (record { top = 0; bottom = bottom })
root_zero bottom h = one_floor (record { top = 0; bottom = bottom }) 0 (record { low = omega arith; next = omega arith })

denominator_zero : scaled_denominator 0 ≡ 0
unfolding scaled_denominator
denominator_zero = omega (arith, root_zero 3072 (omega arith))

pub never_at_zero : NeverAtZero
never_at_zero rate Tr n s = (le-ltb (10000 * s * 2 ^ 50) (rate * 0 * scaled_denominator n) (omega arith), le-ltb (10000 * s * 2 ^ 50) (rate * Tr * scaled_denominator 0) (rw denominator_zero (omega arith)))

-- ---- growth

pub denominator_grows : (m n : ℕ) → m ≤ n → scaled_denominator m ≤ scaled_denominator n
unfolding scaled_denominator
denominator_grows m n l =
    add-le-add (mul-le-mul_right (2 ^ 30) (never_fall m n l).0)
    (mul-le-mul (mul-le-mul (mul-le-mul_left 12 (never_fall m n l).1) l) (omega (arith, mul-le-mul l l)))

pub greater_loss_triggers : GreaterLossTriggers
greater_loss_triggers rate Tr m n s l t =
    lt-ltb (10000 * s * 2 ^ 50) (rate * Tr * scaled_denominator n)
    (lt_of_lt_of_le (ltb-true (10000 * s * 2 ^ 50) (rate * Tr * scaled_denominator m) t) (mul-le-mul_left (rate * Tr) (denominator_grows m n l)))

-- over no time there is none
pub loss_none : (P W : ℕ) → W ≡ 0 → loss_of P W ≡ 0
loss_none P W e = omega (arith, ap (λ (w : ℕ). 4 * P / w) e, div-zero (4 * P))

pub loss_grows : LossGrows
loss_grows P Q W l = ⊎_elim (λ e. omega (arith, loss_none P W e)) (λ h. (le-div_iff_mul-le h).1 (omega (arith, div-mul-le_self (4 * P) W))) (eq-zero-or-pos W)

pub loss_at_most : LossAtMost
loss_at_most P W l = div-le_of_le-mul W (omega arith)
