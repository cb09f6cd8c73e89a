-- The widths of numbers in lent words (document 01, "Packets"): CE and lost have 16 bits.
use Rattle.std.specs.Prelude.{Bool, List, [], ◌∷◌, ℕ, ◌^◌, ltb, get_or}

-- packets marked, the word at `ce`, and lost, the word at `lost`
abbrev pub counts_fit : List ℕ → ℕ → ℕ → List Bool
counts_fit words ce lost = ltb (get_or words ce 0) (2 ^ 16) ∷ ltb (get_or words lost 0) (2 ^ 16) ∷ []
