-- The products of the condition fit, and its two sides as the rule writes them. Assumes nothing.
use mathlib.Core.Path.{◌≡◌, ◌∙◌, ap}
use Prim.Native.Nat.{ℕ, ◌*◌, ◌^◌, ◌≤◌}
use native.Mathlib.Nat.{mul-le-mul, lt_of_le_of_lt, pow-suc, pow-zero}
use native.Mathlib.Omega.{arith}
use lib.Dec.{T, ltb, lit<}
use mir.Syntax.{w64}
use mir.Val.{Fits}

-- a product of two numbers under limits whose product fits
pub fits_product : (X Y : ℕ) {x y : ℕ} → x ≤ X → y ≤ Y → T (ltb (X * Y) (2 ^ 64)) → Fits w64 (x * y)
fits_product X Y hx hy t = record { fits = lt_of_le_of_lt (mul-le-mul hx hy) (lit< t) }

pub squared : (x : ℕ) → x ^ 2 ≡ x * x
squared x = pow-suc x 1 ∙ ap (λ (n : ℕ). n * x) (pow-suc x 0 ∙ ap (λ (n : ℕ). n * x) (pow-zero x) ∙ omega arith)

pub left_side : (rate rtt p : ℕ) → rate * rtt * rtt * (rate * p) ≡ rate ^ 2 * rtt ^ 2 * p
left_side rate rtt p = rw (squared rate, squared rtt) (omega arith)

pub right_side : (w s : ℕ) → 38400000000 * w * (s * s) ≡ 38400000000 * s ^ 2 * w
right_side w s = rw (squared s) (omega arith)
