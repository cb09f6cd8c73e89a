-- The full condition and the full throughput equation. Assumes nothing.
use mathlib.Core.Path.{◌≡◌, sym, ◌∙◌, ap}
use Prim.Native.Nat.{ℕ, ◌+◌, ◌*◌, ◌^◌, ◌<◌}
use native.Mathlib.Nat.{mul-le-mul_left, mul-lt-mul_of_pos_left, mul-pos, eq_of_mul-eq-mul_left}
use native.Mathlib.Omega.{arith}
use lib.Dec.{ltb}
use Rattle.wide.proofs.Order.{same_order}
use Rattle.roots.specs.Fractions.{Fraction, whole, ◌plus◌, ◌times◌, ◌over◌, square}
use Rattle.roots.specs.FullThroughput.{round_trip_radicand, denominator, ratio, throughput}
use Rattle.roots.specs.Roots.{loss, round_trip_root, timeout_root}
use Rattle.roots.specs.FullCondition.{scaled_denominator}
use Rattle.roots.specs.Theorems.{seconds, unscaled, FullAboveTenTimes, RatioOfRoots, RootTakenOut, SquaredThroughput, exact_loss, OneSquare}

-- both sides of a test multiplied by one number
multiplied : (c a b : ℕ) → 0 < c → ltb a b ≡ ltb (c * a) (c * b)
multiplied c a b h = same_order a b (c * a) (c * b) (λ l. mul-lt-mul_of_pos_left l h) (λ l. mul-le-mul_left c l)

-- ---- the condition is the equation with a lower p and lower roots

pub full_above_ten_times : FullAboveTenTimes
unfolding scaled_denominator
full_above_ten_times rate Tr n s =
    multiplied (1000 * 2 ^ 20) (10000 * s * 2 ^ 50) (rate * Tr * scaled_denominator n) (omega arith) ∙ (λ i. ltb (low i) (high i))
  where
    bound : Fraction
    bound = whole 10 times throughput (whole s) (seconds Tr) (whole 4 times seconds Tr) (loss n) (unscaled (round_trip_root n)) (unscaled (timeout_root n))

    low : 1000 * 2 ^ 20 * (10000 * s * 2 ^ 50) ≡ bound.top * (whole rate).bottom
    low = omega arith

    high : 1000 * 2 ^ 20 * (rate * Tr * scaled_denominator n) ≡ (whole rate).top * bound.bottom
    high = omega arith

-- ---- the two roots

pub ratio_of_roots : RatioOfRoots
ratio_of_roots b p = omega arith

-- with fractions t, u, x, p and 1 + 32 · p · p = v
taken_out : (t₁ t₀ u₁ u₀ x₁ x₀ p₁ p₀ v₁ v₀ : ℕ)
    → (t₁ * x₁ * (u₀ * (1 * (4 * x₀) * p₀ * v₀)) + u₁ * (3 * (3 * x₁) * p₁ * v₁) * (t₀ * x₀)) * (x₀ * (t₀ * 1 * (u₀ * (4 * p₀ * v₀))))
    ≡ x₁ * (t₁ * 1 * (u₀ * (4 * p₀ * v₀)) + u₁ * (9 * p₁ * v₁) * (t₀ * 1)) * (t₀ * x₀ * (u₀ * (1 * (4 * x₀) * p₀ * v₀)))
taken_out t₁ t₀ u₁ u₀ x₁ x₀ p₁ p₀ v₁ v₀ = omega arith

pub root_taken_out : RootTakenOut
root_taken_out Tr tRTO p root =
    let v : Fraction = whole 1 plus whole 32 times p times p in
    taken_out Tr.top Tr.bottom tRTO.top tRTO.bottom root.top root.bottom p.top p.bottom v.top v.bottom

-- with s, the denominator d as it is written and e with the root x taken out, and the radicand r
squared_out : (s₁ s₀ d₁ d₀ e₁ e₀ x₁ x₀ r₁ r₀ : ℕ) → 0 < x₀ → d₁ * (x₀ * e₀) ≡ x₁ * e₁ * d₀ → x₁ * x₁ * r₀ ≡ r₁ * (x₀ * x₀)
    → s₁ * d₀ * (s₁ * d₀) * (s₀ * s₀ * (r₁ * (e₁ * e₁))) ≡ s₁ * s₁ * (r₀ * (e₀ * e₀)) * (s₀ * d₁ * (s₀ * d₁))
squared_out s₁ s₀ d₁ d₀ e₁ e₀ x₁ x₀ r₁ r₀ h out root = omega (arith, ap (λ (n : ℕ). s₁ * s₁ * (s₀ * s₀) * n) without)
  where
    without : d₀ * d₀ * (r₁ * (e₁ * e₁)) ≡ r₀ * (e₀ * e₀) * (d₁ * d₁)
    without =
        eq_of_mul-eq-mul_left (x₀ * x₀) (mul-pos h h) (d₀ * d₀ * (r₁ * (e₁ * e₁))) (r₀ * (e₀ * e₀) * (d₁ * d₁))
        (omega (arith, ap (λ (n : ℕ). n * (d₀ * d₀ * (e₁ * e₁))) root, ap (λ (n : ℕ). n * n * r₀) out))

pub squared_throughput : SquaredThroughput
squared_throughput s Tr tRTO b p root h e =
    let d = denominator Tr tRTO p root (ratio times root) in
    let taken = denominator Tr tRTO p (whole 1) ratio in
    let r = round_trip_radicand b p in
    squared_out s.top s.bottom d.top d.bottom taken.top taken.bottom root.top root.bottom r.top r.bottom h
    (root_taken_out Tr tRTO p root) e

-- ---- the exact condition is one square

-- with v = 1 + 32 · p · p: 10² · X², and the two sides of the square
abbrev exact : ℕ → ℕ → Fraction → Fraction → Fraction
exact Tr s p v =
    square (whole 10)
    times (square (whole s) over (round_trip_radicand (whole 1) p times square (seconds Tr times whole 1 plus whole 4 times seconds Tr times (whole 3 times ratio times p times v))))

abbrev pub left : ℕ → ℕ → Fraction → Fraction → Fraction
left rate Tr p v = square (whole rate) times square (whole Tr) times (whole 2 times p over whole 3) times square (whole 1 plus whole 9 times p times v)

abbrev pub right : ℕ → Fraction
right s = square (whole 10000 times whole s)

low : (rate Tr s : ℕ) (p v : Fraction) → 16000000 * ((right s).top * (left rate Tr p v).bottom) ≡ (exact Tr s p v).top * (square (whole rate)).bottom
low rate Tr s p v = omega arith

high : (rate Tr s : ℕ) (p v : Fraction) → 16000000 * ((left rate Tr p v).top * (right s).bottom) ≡ (square (whole rate)).top * (exact Tr s p v).bottom
high rate Tr s p v = omega arith

pub one_square_lem : OneSquare
one_square_lem rate Tr P s W =
    let p = exact_loss P W in
    let v = whole 1 plus whole 32 times p times p in
    let x = left rate Tr p v in
    let y = right s in
    sym (multiplied 16000000 (y.top * x.bottom) (x.top * y.bottom) (omega arith) ∙ (λ i. ltb (low rate Tr s p v i) (high rate Tr s p v i)))
