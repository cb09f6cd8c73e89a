-- Packets lost (document 01, "Counting arrivals") as 1 word. They are signed: their two's complement.
use Rattle.std.specs.Prelude.{List, [], ◌∷◌, ℕ, ◌^◌, ℤ}
use Rattle.numbers.specs.Integers.{modulo}

abbrev pub lost_words : ℤ → List ℕ
lost_words lost = modulo (2 ^ 64) lost ∷ []
