-- The front of a line on standard error: two texts with a colon and a space between them. Assumes nothing.
use Rattle.std.specs.Prelude.{◌≡◌, List, ◌++◌, ℕ, min, length}
use Rattle.std.proofs.lemmas.List.Edits.{sets}
use Rattle.answers.specs.Texts.{codes}

abbrev pub joined : List ℕ → List ℕ → List ℕ
joined first second = first ++ (codes ": " ++ second)

-- both stand at the front of the output, cut off where it ends, and the answer is their length, or the output's if that is less
pub record Joined (first second old : List ℕ) (r : ℕ) (new : List ℕ) : Type 0 where
  pub size : r ≡ min (length (joined first second)) (length old)
  pub front : new ≡ sets old 0 (joined first second)
