-- The answers of a source's calls by the paper's numbers and values (document 01, "Refusal numbers"; 02, request L5: "the answer tells of one", a restart).
use Rattle.answers.specs.declared.Refusal.{Refusal}
use Rattle.std.specs.Prelude.{ℕ, Bool, true, false, ℤ, Option, Some, None, Result, Ok, Err}
use Rattle.answers.specs.Numbered.{Numbered, succeeds, refuses}
use Rattle.source.specs.declared.Source.{Source}
use Rattle.source.specs.declared.Arrival.{Arrival}
use Rattle.source.specs.declared.Arrival.TheVariants as arrival
use Rattle.source.specs.declared.BlockCount.{BlockCount}
use Rattle.source.specs.declared.BlockCount.TheVariants as count

-- an arrival: the record, and whether it began again
abbrev pub arrival_as : Arrival → Numbered (Source × Bool)
arrival_as (arrival.Accepted s) = succeeds (s, false)
arrival_as (arrival.Restarted s) = succeeds (s, true)
arrival_as (arrival.Refused refusal s) = refuses refusal (s, false)

-- a block: the record, and the jumps and restarts
abbrev pub count_as : BlockCount → Numbered (Source × Option (ℕ × ℕ))
count_as (count.Counted s jumps restarts) = succeeds (s, Some (jumps, restarts))
count_as (count.Refused refusal s) = refuses refusal (s, None)

-- the packets lost
abbrev pub lost_as : Result ℤ Refusal → Numbered (Option ℤ)
lost_as (Ok n) = succeeds (Some n)
lost_as (Err refusal) = refuses refusal None
