-- What the check of a table tells, and what its calls rest on: how many places are held, or the refusal.
use Rattle.std.specs.Prelude.{◌≡◌, ℕ, List, length, Option, Some, None, Result, Ok, Err}
use Rattle.answers.specs.declared.Refusal.{Refusal}
use Rattle.sources.specs.declared.Place.{Place}
use Rattle.sources.specs.declared.Table.{Table}
use Rattle.sources.specs.Places.{held_of}
use Rattle.sources.specs.Rules.{fault}
use Rattle.sources.specs.Tables.{lent, fault_in}

abbrev pub checked_by : Option Refusal → ℕ → Result ℕ Refusal
checked_by (Some refusal) n = Err refusal
checked_by None n = Ok n

-- of a lent slice
abbrev pub checked : List Place → Result ℕ Refusal
checked ps = checked_by (fault ps) (length (held_of ps))

-- of a table by value
unfoldable pub checked_in : Table → Result ℕ Refusal
checked_in t = checked_by (fault_in t) (length (held_of (lent t)))

-- neither 16 nor 9, and n places are held
pub record Good (t : Table) (n : ℕ) : Type 0 where
  pub kept : fault_in t ≡ None
  pub count : n ≡ length (held_of (lent t))
