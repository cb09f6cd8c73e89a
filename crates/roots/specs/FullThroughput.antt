-- RFC 8083, section 4.3: the full throughput equation, in bytes per second, with s in bytes, Tr and t_RTO in seconds:
--   X = s / (Tr · sqrt (2 · b · p / 3) + (t_RTO · (3 · sqrt (3 · b · p / 8) · p · (1 + 32 · p · p))))
-- The first root is the round trip's, the second the timeout's.
use Rattle.roots.specs.Fractions.{Fraction, whole, ◌plus◌, ◌times◌, ◌over◌, square}

-- what stands under the two roots
abbrev pub round_trip_radicand : Fraction → Fraction → Fraction
round_trip_radicand b p = whole 2 times b times p over whole 3

abbrev pub timeout_radicand : Fraction → Fraction → Fraction
timeout_radicand b p = whole 3 times b times p over whole 8

-- the denominator, with two fractions x and y in place of the roots
abbrev pub denominator : Fraction → Fraction → Fraction → Fraction → Fraction → Fraction
denominator Tr tRTO p x y = Tr times x plus tRTO times (whole 3 times y times p times (whole 1 plus whole 32 times p times p))

-- X, with two fractions in place of the roots
abbrev pub throughput : Fraction → Fraction → Fraction → Fraction → Fraction → Fraction → Fraction
throughput s Tr tRTO p x y = s over denominator Tr tRTO p x y

-- The roots are in a fixed ratio (`RatioOfRoots`): the timeout's is 3/4 of the round trip's. So the round trip's root can be taken out of the
-- denominator (`RootTakenOut`), which leaves 1 and 3/4 in place of the roots, and X² has no root:
abbrev pub ratio : Fraction
ratio = record { top = 3; bottom = 4 }

abbrev pub throughput_squared : Fraction → Fraction → Fraction → Fraction → Fraction → Fraction
throughput_squared s Tr tRTO b p = square s over (round_trip_radicand b p times square (denominator Tr tRTO p (whole 1) ratio))
