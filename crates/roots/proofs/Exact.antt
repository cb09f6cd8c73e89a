-- Where the full condition holds, the exact equation's does. Assumes nothing.
use mathlib.Core.Path.{◌≡◌, refl, sym, ◌∙◌, ap}
use mathlib.Core.Bool.{true, false, true≢false}
use mathlib.Core.Logic.{⊎_elim}
use Prim.Native.Nat.{ℕ, ◌+◌, ◌*◌, ◌^◌, ◌<◌, ◌≤◌}
use native.Mathlib.Nat.{mul-le-mul, mul-le-mul_left, mul-le-mul_right, mul-lt-mul_of_pos_left, mul-lt-mul_of_pos_right, mul-pos, eq-zero-or-pos}
use native.Mathlib.Omega.{arith}
use borrow.Author.Tests.{lt-ltb, ltb-true}
use lib.Dec.{ltb}
use Rattle.roots.specs.Fractions.{Fraction, whole, ◌plus◌, ◌times◌}
use Rattle.roots.specs.Roots.{round_trip_root, timeout_root}
use Rattle.roots.specs.FullCondition.{loss_of, scaled_denominator, condition_at, full_condition}
use Rattle.roots.specs.Theorems.{exact_condition, ExactTriggersToo, NotConversely, FullExample}
use Rattle.roots.proofs.Squares.{square_above, Under, multiple, sum}
use Rattle.roots.proofs.Floors.{computed, roots_are_floors}
use Rattle.roots.proofs.Losses.{never_at_zero, loss_is_floor, loss_none}
use Rattle.roots.proofs.Equation.{left, right, one_square_lem}

-- p = P / D is at least n / 1024, and a and b are not above the scaled roots at n
module _ (n D P a b : ℕ) (rounded : n * D ≤ 1024 * P) (roundTrip : a * a * 3072 ≤ 2 ^ 40 * (2 * n)) (timeout : b * b * 8192 ≤ 2 ^ 40 * (3 * n)) where
  -- both are not above the scaled roots at p, the second not above 3/4 of the first
  round_trip_under : Under (2 ^ 41 * P) (3 * D) 1 a
  round_trip_under = record { squares = omega (arith, mul-le-mul_right D roundTrip) }

  timeout_under : Under (2 ^ 41 * P) (3 * D) 3 (4 * b)
  timeout_under = record { squares = omega (arith, mul-le-mul_right D timeout) }

  -- D³, and p · (1 + 32 · p²) · D³
  cube : ℕ
  cube = D * (D * D)

  growth : ℕ
  growth = P * (D * D + 32 * (P * P))

  positive : 0 < D → 0 < cube
  unfolding cube
  positive h = mul-pos h (mul-pos h h)

  -- the denominator with a and b at p, times D³
  top : ℕ
  top = a * cube + 4 * b * (3 * growth)

  top_under : Under (2 ^ 41 * P) (3 * D) (1 * cube + 3 * (3 * growth)) top
  unfolding top
  top_under = sum (multiple cube round_trip_under) (multiple (3 * growth) timeout_under)

  -- at n / 1024 it is not above that
  lower : (a * 2 ^ 30 + 12 * b * n * (2 ^ 20 + 32 * n * n)) * cube ≤ 2 ^ 30 * top
  unfolding cube growth top
  lower = omega (arith, mul-le-mul_left (12 * 2 ^ 20 * (b * D * D)) rounded, mul-le-mul_left (384 * b) (mul-le-mul rounded (mul-le-mul rounded rounded)))

  -- both sides squared
  exact_square : (rate s : ℕ) → 0 < D → 10000 * s * 2 ^ 50 < rate * (a * 2 ^ 30 + 12 * b * n * (2 ^ 20 + 32 * n * n))
      → 10000 * s * (10000 * s) * (3 * D * (cube * cube)) < rate * rate * (2 * P) * ((cube + 9 * growth) * (cube + 9 * growth))
  exact_square rate s h above =
      let times-cube : 10000 * s * 2 ^ 20 * cube < rate * top = omega (arith, mul-lt-mul_of_pos_right above (positive h), mul-le-mul_left rate lower) in
      omega (arith, mul-lt-mul_of_pos_left (square_above times-cube) h, mul-le-mul_left (rate * rate) top_under.squares)

passed : {a b c d : ℕ} → a ≡ c → b ≡ d → c < d → ltb a b ≡ true
passed {a} {b} e f h = lt-ltb a b (omega arith)

-- the same over the fractions p = P / D and v = 1 + 32 · p · p
module _ (rate Tr P s D : ℕ) where
  p : Fraction
  p = record { top = P; bottom = D }

  v : Fraction
  v = whole 1 plus whole 32 times p times p

  low : (right s).top * (left rate Tr p v).bottom ≡ 10000 * s * (10000 * s) * (3 * D * (D * (D * D) * (D * (D * D))))
  unfolding p v
  low = omega arith

  high : (left rate Tr p v).top * (right s).bottom
      ≡ rate * Tr * (rate * Tr) * (2 * P) * ((D * (D * D) + 9 * (P * (D * D + 32 * (P * P)))) * (D * (D * D) + 9 * (P * (D * D + 32 * (P * P)))))
  unfolding p v
  high = omega arith

pub exact_triggers_too : ExactTriggersToo
unfolding scaled_denominator cube growth p v
exact_triggers_too rate Tr P s W t = ⊎_elim (λ e. absurd (true≢false (sym t ∙ none e))) some (eq-zero-or-pos W)
  where
    n : ℕ
    n = loss_of P W

    none : W ≡ 0 → full_condition rate Tr P s W ≡ false
    none e = ap (λ (m : ℕ). condition_at rate Tr m s) (loss_none P W e) ∙ (never_at_zero rate Tr 0 s).1

    some : 0 < W → exact_condition rate Tr P s W ≡ true
    some h =
        let floors = roots_are_floors n in
        one_square_lem rate Tr P s W
        ∙ passed (low rate Tr P s (256 * W)) (high rate Tr P s (256 * W))
        (exact_square n (256 * W) P (round_trip_root n) (timeout_root n) (loss_is_floor P W h).0 floors.0.low floors.1.low (rate * Tr) s (omega arith) (ltb-true (10000 * s * 2 ^ 50) (rate * Tr * scaled_denominator n) t))

-- ---- the examples of docs/BREAKER.md

round_trip_256 : round_trip_root 256 ≡ 428079
round_trip_256 = computed (record { top = 512; bottom = 3072 }) 428079 tt tt

timeout_256 : timeout_root 256 ≡ 321059
timeout_256 = computed (record { top = 768; bottom = 8192 }) 321059 tt tt

denominator_256 : scaled_denominator 256 ≡ 3562256612720640
unfolding scaled_denominator
denominator_256 = λ i. round_trip_256 i * 2 ^ 30 + 12 * timeout_256 i * 256 * (2 ^ 20 + 32 * 256 * 256)

at_256 : (rate Tr s : ℕ) → condition_at rate Tr 256 s ≡ ltb (10000 * s * 2 ^ 50) (rate * Tr * 3562256612720640)
at_256 rate Tr s = ap (λ (d : ℕ). ltb (10000 * s * 2 ^ 50) (rate * Tr * d)) denominator_256

pub not_conversely : NotConversely
not_conversely = (refl, at_256 94818958 1 30000, refl, (never_at_zero 6175065 100 0 1000).1)

pub full_example : FullExample
full_example = (round_trip_256, timeout_256, denominator_256, at_256 31606 100 1000, at_256 31607 100 1000)
