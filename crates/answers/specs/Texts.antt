-- Texts of the documents in ASCII.
use Rattle.std.specs.Prelude.{ℕ, zero, suc, List, [], ◌∷◌}
use Prim.Native.Char.{code}
use Prim.Native.String.{String, len, char_at}

-- the codes of n characters from a place on
abbrev pub codes_from : ℕ → ℕ → String → List ℕ
codes_from zero at text = []
codes_from (suc n) at text = code (char_at text at) ∷ codes_from n (suc at) text

abbrev pub codes : String → List ℕ
codes text = codes_from (len text) 0 text
