-- Document 02, L9: the condition of the full equation, with W the sum of the last k lengths, P the sum of f times length, and the report's rate,
-- Tr in ms and s.
use Rattle.std.specs.Prelude.{Bool, ℕ, ◌+◌, ◌*◌, ◌/◌, ◌^◌, ltb}
use Rattle.roots.specs.Roots.{round_trip_root, timeout_root}

-- p = P / (256 · W) rounded down to n / 1024
abbrev pub loss_of : ℕ → ℕ → ℕ
loss_of P W = 4 * P / W

-- the equation's denominator for a round trip of 1 at p = n / 1024, times 2^50: A · 2^30 + 12 · B · n · (2^20 + 32 · n²), with A the round
-- trip's and B the timeout's scaled root
unfoldable pub scaled_denominator : ℕ → ℕ
scaled_denominator n = round_trip_root n * 2 ^ 30 + 12 * timeout_root n * n * (2 ^ 20 + 32 * n * n)

-- rate · Tr · (A · 2^30 + 12 · B · n · (2^20 + 32 · n²)) > 10,000 · s · 2^50, which is "rate above ten times the full equation"
-- (`FullAboveTenTimes`)
abbrev pub condition_at : ℕ → ℕ → ℕ → ℕ → Bool
condition_at rate Tr n s = ltb (10000 * s * 2 ^ 50) (rate * Tr * scaled_denominator n)

-- the same at this n
abbrev pub full_condition : ℕ → ℕ → ℕ → ℕ → ℕ → Bool
full_condition rate Tr P s W = condition_at rate Tr (loss_of P W) s
