-- RFC 8083, section 4.3: the simplified throughput equation, X = s / (Tr · sqrt (2 · b · p / 3)) bytes per second, with s in bytes and Tr in
-- seconds. Over squares it has no root: X² = s² / (Tr² · (2 · b · p / 3)). (The full equation stands in `roots`.)
use Rattle.roots.specs.Fractions.{Fraction, whole, ◌times◌, ◌over◌, square}

-- X²
abbrev pub simplified_squared : Fraction → Fraction → Fraction → Fraction → Fraction
simplified_squared s Tr b p = square s over (square Tr times ((whole 2 times (b times p)) over whole 3))
