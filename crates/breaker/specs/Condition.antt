-- Document 01, "The breaker", and 02, request L9: the condition, with W the sum of the last k lengths, P the sum of f times length, and the report's rate, Tr and s.
use Rattle.std.specs.Prelude.{Bool, cond, ℕ, ◌*◌, ◌^◌, ltb}
use Rattle.roots.specs.FullCondition.{full_condition}

-- the simplified equation: rate² · Tr² · P > 38,400,000,000 · s² · W
abbrev pub condition : ℕ → ℕ → ℕ → ℕ → ℕ → Bool
condition rate Tr P s W = ltb (38400000000 * s ^ 2 * W) (rate ^ 2 * Tr ^ 2 * P)

-- the condition by a setting: the full equation's where it is on
abbrev pub condition_by : Bool → ℕ → ℕ → ℕ → ℕ → ℕ → Bool
condition_by full rate Tr P s W = cond full (full_condition rate Tr P s W) (condition rate Tr P s W)
