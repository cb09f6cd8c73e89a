-- The sizes of the roots, the denominator and the factors of the full condition. Assumes nothing.
use mathlib.Core.Path.{◌≡◌}
use Prim.Native.Nat.{ℕ, ◌+◌, ◌*◌, ◌^◌, ◌<◌, ◌≤◌, min}
use native.Mathlib.Nat.{mul-le-mul, lt_of_le_of_lt}
use native.Mathlib.Omega.{arith}
use lib.Dec.{lit<}
use Rattle.roots.specs.Roots.{round_trip_root, timeout_root}
use Rattle.roots.specs.FullCondition.{scaled_denominator}
use Rattle.roots.specs.Theorems.{FactorsFit}
use Rattle.roots.proofs.Floors.{computed, unit_root, roots_are_floors}
use Rattle.roots.proofs.Losses.{denominator_grows}

-- the denominator's parts, for roots of at most 2^20
pub record Parts (m a b : ℕ) : Type 0 where
  pub first : a * 2 ^ 30 ≤ 2 ^ 50
  pub root : 12 * b ≤ 12 * 2 ^ 20
  pub loss : 12 * b * m ≤ 12 * 2 ^ 30
  pub square : 32 * m * m ≤ 32 * 2 ^ 20
  pub second : 12 * b * m * (2 ^ 20 + 32 * m * m) ≤ 12 * 2 ^ 30 * (33 * 2 ^ 20)

parts : {m a b : ℕ} → m ≤ 1024 → a ≤ 2 ^ 20 → b ≤ 2 ^ 20 → Parts m a b
parts {m} {a} {b} hm ha hb =
    let loss : 12 * b * m ≤ 12 * 2 ^ 30 = omega (arith, mul-le-mul hb hm) in
    let square : 32 * m * m ≤ 32 * 2 ^ 20 = omega (arith, mul-le-mul hm hm) in
    let sum : 2 ^ 20 + 32 * m * m ≤ 33 * 2 ^ 20 = omega arith in
    record { first = omega arith; root = omega arith; loss = loss; square = square; second = mul-le-mul loss sum }

-- with the roots that the tables give for m
pub parts_of_lem : {m a b : ℕ} → m ≤ 1024 → a ≡ round_trip_root (min m 1024) → b ≡ timeout_root (min m 1024) → Parts m a b
parts_of_lem {m} h ea eb =
    let floors = roots_are_floors (min m 1024) in
    parts h (omega (arith, ea, unit_root (omega arith) floors.0)) (omega (arith, eb, unit_root (omega arith) floors.1))

-- ---- the factors

-- the roots at n = 1,024
denominator_most : scaled_denominator 1024 < 2 ^ 58
unfolding scaled_denominator
denominator_most = rw (computed (record { top = 2048; bottom = 3072 }) 856158 tt tt, computed (record { top = 3072; bottom = 8192 }) 642119 tt tt) (lit< tt)

pub factors_fit : FactorsFit
factors_fit rate Tr n s hr ht hn hs =
    (lt_of_le_of_lt (mul-le-mul hr ht) (lit< tt), lt_of_le_of_lt (denominator_grows n 1024 hn) denominator_most, omega arith, omega arith)
