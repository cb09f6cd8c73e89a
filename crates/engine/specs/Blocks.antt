-- A block in parts.
use Rattle.std.specs.Prelude.{◌≡◌, List, ℕ, ◌*◌, ◌≤◌, length}
use Rattle.engine.specs.Limits.{most_in_part}

-- n whole records, as a block holds them
pub record Block (width : ℕ) (s : List ℕ) (n : ℕ) : Type 0 where
  pub wide : 4 ≤ width
  pub whole : length s ≡ n * width
  pub some : 1 ≤ n
  pub few : n ≤ 62

-- the next part of the records that are left
pub record PartSize (left k : ℕ) : Type 0 where
  pub some : 1 ≤ k
  pub few : k ≤ most_in_part
  pub fits : k ≤ left
