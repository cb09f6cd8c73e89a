-- Document 02, L9: the two roots of the full throughput equation at p = n / 1024 and b = 1, scaled by 2^20 and rounded down.
use Rattle.std.specs.Prelude.{Bool, cond, ℕ, zero, suc, ◌+◌, ◌*◌, ◌^◌, ◌<◌, ◌≤◌, leb}
use Rattle.roots.specs.Fractions.{Fraction, whole}
use Rattle.roots.specs.FullThroughput.{round_trip_radicand, timeout_radicand}

-- the greatest number up to a limit that passes a test, or 0
unfoldable pub greatest : (ℕ → Bool) → ℕ → ℕ
greatest test zero = 0
greatest test (suc k) = cond (test (suc k)) (suc k) (greatest test k)

-- 2^20 · √x rounded down: the greatest r with r² ≤ 2^40 · x. (No such r is above 2^40 · top, unless x has the bottom 0.)
unfoldable pub scaled_root : Fraction → ℕ
scaled_root x = greatest (λ r. leb (r * r * x.bottom) (2 ^ 40 * x.top)) (2 ^ 40 * x.top)

-- p = n / 1024
abbrev pub loss : ℕ → Fraction
loss n = record { top = n; bottom = 1024 }

-- floor (2^20 · √(2n/3072))
abbrev pub round_trip_root : ℕ → ℕ
round_trip_root n = scaled_root (round_trip_radicand (whole 1) (loss n))

-- floor (2^20 · √(3n/8192))
abbrev pub timeout_root : ℕ → ℕ
timeout_root n = scaled_root (timeout_radicand (whole 1) (loss n))

-- The rule over squares: r is 2^20 · √x rounded down where its square does not exceed the scaled exact square, 2^40 · x, and the next number's
-- square does.
pub record Floor (x : Fraction) (r : ℕ) : Type 0 where
  pub low : r * r * x.bottom ≤ 2 ^ 40 * x.top
  pub next : 2 ^ 40 * x.top < (r + 1) * (r + 1) * x.bottom
