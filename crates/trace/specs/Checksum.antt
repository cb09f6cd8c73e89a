-- RFC 1071, section 1: the ones' complement sum of the 16-bit words of a text.
use Rattle.std.specs.Prelude.{ℕ, ◌+◌, ◌*◌, ◌/◌, ◌%◌, List, [], ◌∷◌}

-- adjacent octets are paired to form 16-bit words; an odd octet at the end is paired with zero
unfoldable pub words : List ℕ → List ℕ
words [] = []
words (a ∷ []) = (a * 256) ∷ []
words (a ∷ b ∷ s) = (a * 256 + b) ∷ words s

-- ones' complement addition: a carry out of the 16 bits is added at the right
unfoldable pub ones_add : ℕ → ℕ → ℕ
ones_add a b = (a + b) % 65536 + (a + b) / 65536

-- the ones' complement sum
unfoldable pub ones_sum : List ℕ → ℕ
ones_sum [] = 0
ones_sum (w ∷ ws) = ones_add w (ones_sum ws)
