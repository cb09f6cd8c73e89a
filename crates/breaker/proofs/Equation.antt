-- The condition is the simplified throughput equation over squares. Assumes nothing.
use mathlib.Core.Path.{◌≡◌, sym, ◌∙◌}
use Prim.Native.Nat.{ℕ, ◌*◌, ◌^◌}
use native.Mathlib.Nat.{mul-le-mul, mul-le-mul_right, mul-lt-mul_of_pos_left, lt_of_le_of_lt, le_of_lt}
use native.Mathlib.Omega.{arith}
use lib.Dec.{ltb}
use Rattle.wide.proofs.Order.{same_order}
use Rattle.roots.specs.Fractions.{Fraction, whole, ◌times◌, square}
use Rattle.breaker.specs.Throughput.{simplified_squared}
use Rattle.breaker.specs.Theorems.{AboveTenTimes, SquaresCompare}
use Rattle.breaker.proofs.Products.{squared}

-- both sides of a test doubled
doubled : (a b : ℕ) → ltb a b ≡ ltb (2 * a) (2 * b)
doubled a b = same_order a b (2 * a) (2 * b) (λ h. omega arith) (λ h. omega arith)

-- 10² · X²
abbrev bound : ℕ → ℕ → ℕ → ℕ → Fraction
bound Tr P s W =
    square (whole 10) times simplified_squared (whole s) (record { top = Tr; bottom = 1000 }) (whole 1) (record { top = P; bottom = 256 * W })

pub above_ten_times_lem : AboveTenTimes
above_ten_times_lem rate Tr P s W =
    doubled (38400000000 * s ^ 2 * W) (rate ^ 2 * Tr ^ 2 * P) ∙ (λ i. ltb (low i) (high i))
  where
    low : 2 * (38400000000 * s ^ 2 * W) ≡ (bound Tr P s W).top * (square (whole rate)).bottom
    low = rw (squared s) (omega arith)

    high : 2 * (rate ^ 2 * Tr ^ 2 * P) ≡ (square (whole rate)).top * (bound Tr P s W).bottom
    high = rw (squared rate, squared Tr) (omega arith)

-- the order of squares
squares : (a b : ℕ) → ltb (a * a) (b * b) ≡ ltb a b
squares a b = sym (same_order a b (a * a) (b * b) (λ h. lt_of_le_of_lt (mul-le-mul_right a (le_of_lt h)) (mul-lt-mul_of_pos_left h (omega arith))) (λ h. mul-le-mul h h))

pub squares_compare : SquaresCompare
squares_compare x y = (λ i. ltb (cross y.top x.bottom i) (cross x.top y.bottom i)) ∙ squares (y.top * x.bottom) (x.top * y.bottom)
  where
    cross : (a b : ℕ) → a * a * (b * b) ≡ a * b * (a * b)
    cross a b = omega arith
