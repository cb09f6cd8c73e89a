-- Numbers that are not above a multiple of one root. Assumes nothing.
use Prim.Native.Nat.{ℕ, ◌+◌, ◌*◌, ◌<◌, ◌≤◌}
use native.Mathlib.Nat.{mul-le-mul, mul-le-mul_left, mul-le-mul_right, mul-lt-mul_of_pos_left, lt_of_le_of_lt, le_of_lt}
use native.Mathlib.Omega.{arith}
use Rattle.roots.proofs.Floors.{square_below}

-- squares keep the order
pub square_above : {x y : ℕ} → x < y → x * x < y * y
square_above {x} h = lt_of_le_of_lt (mul-le-mul_right x (le_of_lt h)) (mul-lt-mul_of_pos_left h (omega arith))

-- x is not above k · √(m / c)
pub record Under (m c k x : ℕ) : Type 0 where
  pub squares : c * (x * x) ≤ m * (k * k)

-- a multiple
pub multiple : {m c k x : ℕ} (z : ℕ) → Under m c k x → Under m c (k * z) (x * z)
multiple z u = record { squares = omega (arith, mul-le-mul_left (z * z) u.squares) }

-- a sum
pub sum : {m c k l x y : ℕ} → Under m c k x → Under m c l y → Under m c (k + l) (x + y)
sum {m} {c} {k} {l} {x} {y} u w =
    let crossed : c * (x * y) ≤ m * (k * l) = square_below 1 (c * (x * y)) (m * (k * l)) (omega (arith, mul-le-mul u.squares w.squares)) in
    record { squares = omega (arith, u.squares, w.squares) }
