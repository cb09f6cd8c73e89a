-- What the converter answers to block 0, by the paper's numbers and values (document 01, "Refusal numbers"; 02, request L10).
use Rattle.answers.specs.declared.Unwritten.{Unwritten}
use Rattle.std.specs.Prelude.{ℕ, Option, Some, None, Result, Ok, Err}
use Rattle.answers.specs.Numbered.{Numbered, succeeds, refuses}
use Rattle.answers.specs.Refusals.{room_number}
use Rattle.forms.specs.declared.Conversion.{Conversion}

-- the conversion, and the length of the label block, also with 12
abbrev pub begin_as : Result (Conversion × ℕ) Unwritten → Numbered (Option Conversion × Option ℕ)
begin_as (Ok (c, n)) = succeeds (Some c, Some n)
begin_as (Err (Unwritten.Room n)) = record { number = room_number; values = (None, Some n) }
begin_as (Err (Unwritten.Refused refusal)) = refuses refusal (None, None)
