-- Request L14: bytes 10 and 13 are retired. A trace may have them in its label, and no new label has them.
use Rattle.std.specs.Prelude.{ℕ, ◌+◌, Bool, cond, ◌||◌, List, [], ◌∷◌, ◌==◌}

unfoldable pub retired : ℕ → Bool
retired c = c == 10 || c == 13

-- how many bytes of a label are retired
unfoldable pub retired_in : List ℕ → ℕ
retired_in [] = 0
retired_in (c ∷ label) = cond (retired c) 1 0 + retired_in label

-- one space in the place of each retired byte, every other byte as it is
unfoldable pub spaced_byte : ℕ → ℕ
spaced_byte c = cond (retired c) 32 c

unfoldable pub spaced_label : List ℕ → List ℕ
spaced_label [] = []
spaced_label (c ∷ label) = spaced_byte c ∷ spaced_label label
