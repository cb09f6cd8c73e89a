-- Document 02, request L2: the fraction lost of a report, in 256ths. Packets marked with CE count as lost (RFC 8083, section 5).
use Rattle.std.specs.Prelude.{cond, ℕ, ◌+◌, ◌*◌, ◌/◌, min, eqb, ℤ, pos, negsuc}
use Rattle.breaker.specs.declared.EcnCounts.{EcnCounts}
use Rattle.breaker.specs.declared.Loss.{Loss}
use Rattle.breaker.specs.declared.Loss.TheVariants.{Fraction, Counts}

-- a negative number is 0
abbrev pub at_least_zero : ℤ → ℕ
at_least_zero (pos n) = n
at_least_zero (negsuc n) = 0

-- 256 · min(L + C, E) / E rounded down, at most 255; E = 0 gives 0
unfoldable pub counts_fraction : EcnCounts → ℕ
counts_fraction c =
    cond (eqb c.expected 0) 0
    (min (256 * min (at_least_zero c.lost + c.marked) c.expected / c.expected) 255)

-- a report without ECN counts has its f
abbrev pub fraction_of : Loss → ℕ
fraction_of (Fraction f) = f
fraction_of (Counts c) = counts_fraction c
