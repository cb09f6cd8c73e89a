-- ECN counts (document 02, request L2) as 3 words, in the order of include/flasknib.h.
use Rattle.std.specs.Prelude.{List, [], ◌∷◌, ℕ, ◌^◌}
use Rattle.numbers.specs.Integers.{modulo}
use Rattle.breaker.specs.declared.EcnCounts.{EcnCounts}

-- the packets lost are signed: their two's complement
abbrev pub ecn_words : EcnCounts → List ℕ
ecn_words c = modulo (2 ^ 64) c.lost ∷ c.marked ∷ c.expected ∷ []
