-- Document 01, "Table": a text with a comma, double quote, CR or LF is quoted, its quotes doubled; any other is bare.
use Rattle.std.specs.Prelude.{ℕ, Bool, false, cond, ◌||◌, List, [], ◌∷◌, ◌++◌, eqb}

unfoldable pub special : ℕ → Bool
special c = eqb c 44 || (eqb c 34 || (eqb c 13 || eqb c 10))

unfoldable pub any_special : List ℕ → Bool
any_special [] = false
any_special (c ∷ s) = special c || any_special s

unfoldable pub doubled_byte : ℕ → List ℕ
doubled_byte c = cond (eqb c 34) (34 ∷ 34 ∷ []) (c ∷ [])

unfoldable pub doubled : List ℕ → List ℕ
doubled [] = []
doubled (c ∷ s) = doubled_byte c ++ doubled s

unfoldable pub as_field : List ℕ → List ℕ
as_field s = cond (any_special s) (34 ∷ (doubled s ++ (34 ∷ []))) s

-- a line: fields with commas between them, and CR LF behind the last
unfoldable pub line : List ℕ → List (List ℕ) → List ℕ
line field [] = field ++ (13 ∷ 10 ∷ [])
line field (next ∷ more) = field ++ (44 ∷ line next more)
