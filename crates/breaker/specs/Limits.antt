-- Document 01, "The breaker", and 02, request L2: the limits of settings, times and reports.
use Rattle.std.specs.Prelude.{Bool, ◌&&◌, [], ◌∷◌, ℕ, ◌^◌, leb, ltb, nat_abs}
use Rattle.answers.specs.Conditions.{all}
use Rattle.breaker.specs.declared.Settings.{Settings}
use Rattle.breaker.specs.declared.EcnCounts.{EcnCounts}
use Rattle.breaker.specs.declared.Loss.{Loss}
use Rattle.breaker.specs.declared.Loss.TheVariants.{Fraction, Counts}
use Rattle.breaker.specs.declared.Report.{Report}

-- x is from low to high
abbrev pub within : ℕ → ℕ → ℕ → Bool
within low high x = leb low x && leb x high

-- k and m, 1 to 32; timeout t, 1 to 600,000 ms
unfoldable pub settings_ok : Settings → Bool
settings_ok s = all (within 1 32 s.k ∷ within 1 32 s.m ∷ within 1 600000 s.timeout ∷ [])

-- times are ms below 2^48
abbrev pub time_ok : ℕ → Bool
time_ok time = ltb time (2 ^ 48)

-- lost L from -2^31 to 2^31, marked C and expected E at most 2^31
unfoldable pub counts_ok : EcnCounts → Bool
counts_ok c = all (leb (nat_abs c.lost) (2 ^ 31) ∷ leb c.marked (2 ^ 31) ∷ leb c.expected (2 ^ 31) ∷ [])

-- fraction lost 0 to 255, or ECN counts in their limits
abbrev pub loss_ok : Loss → Bool
loss_ok (Fraction f) = leb f 255
loss_ok (Counts c) = counts_ok c

-- losses, round trip 0 to 60,000 ms, packet size 1 to 65,535 bytes, rate 0 to 125,000,000 bytes/s
unfoldable pub report_ok : Report → Bool
report_ok r =
    all
    (time_ok r.time
    ∷ loss_ok r.loss
    ∷ leb r.rtt 60000
    ∷ within 1 65535 r.size
    ∷ leb r.rate 125000000
    ∷ [])
