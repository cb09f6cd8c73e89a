-- Document 01, "The form for each place": of an answer that is an enum "the definition gives this paper's number and values", for each case. The number is 0 for
-- success, else that of the refusal; the values are what comes with it ("A refusal is its number, with the given state where there is one and no other
-- value").
use Rattle.answers.specs.declared.Unwritten.{Unwritten}
use Rattle.std.specs.Prelude.{ℕ, Option, Some, None, Result, Ok, Err}
use Rattle.answers.specs.declared.Refusal.{Refusal}
use Rattle.answers.specs.Refusals.{number_of, room_number}

-- an answer in the paper's terms, over the type of its values
pub record Numbered (Values : Type 0) : Type 0 where
  pub number : ℕ
  pub values : Values

abbrev pub succeeds : {Values : Type 0} → Values → Numbered Values
succeeds values = record { number = 0; values = values }

abbrev pub refuses : {Values : Type 0} → Refusal → Values → Numbered Values
refuses refusal values = record { number = number_of refusal; values = values }

-- a writer's answer: the length; 12 with the bytes that it would write; any other refusal has no value
abbrev pub written_as : Result ℕ Unwritten → Numbered (Option ℕ)
written_as (Ok n) = succeeds (Some n)
written_as (Err (Unwritten.Room n)) = record { number = room_number; values = Some n }
written_as (Err (Unwritten.Refused refusal)) = refuses refusal None
