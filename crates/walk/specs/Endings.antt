-- How a run stands between its calls, in the types of the programs' crates.
use Rattle.std.specs.Prelude.{Bool, true, false, ℕ, ◌+◌, ◌-◌, ◌^◌, min, Option, Some, None}
use Rattle.answers.specs.declared.Refusal.{Refusal}

-- a run goes on until a refusal ends it
abbrev pub is_going : Option Refusal → Bool
is_going None = true
is_going (Some refusal) = false

-- the number of the block so many behind one, which stays at its greatest
abbrev pub number_after : ℕ → ℕ → ℕ
number_after block more = min (block + more) (2 ^ 64 - 1)
