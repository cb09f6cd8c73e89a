-- How many records a block holds (document 01, "Trace file").
use Rattle.std.specs.Prelude.{ℕ, ◌/◌, ◌%◌, ◌≤◌, ◌≡◌, Bool, cond, List, [], ◌∷◌, eqb, leb, length}
use Rattle.answers.specs.Conditions.{all}
use Rattle.format.specs.Blocks.{most_records, behind_time}

-- 1 to 62 whole records, as source's `in_limits` has them before the marks
abbrev pub shape : ℕ → ℕ → List Bool
shape width size =
    leb behind_time width
    ∷ eqb (size % width) 0
    ∷ leb 1 (size / width)
    ∷ leb (size / width) most_records
    ∷ []

-- so many records, or 0 where that is no block
abbrev pub records_in : ℕ → ℕ → ℕ
records_in width size = cond (all (shape width size)) (size / width) 0

-- the most records of a part
abbrev pub most_in_part : ℕ
most_in_part = 31

-- n whole records, as a part holds them
pub record Held (width : ℕ) (s : List ℕ) (n : ℕ) : Type 0 where
  pub wide : 4 ≤ width
  pub whole : length s % width ≡ 0
  pub count : length s / width ≡ n
  pub some : 1 ≤ n
  pub few : n ≤ most_in_part
