-- What a run of ecntable answers to block 0, and an upload to a stretch, by the paper's numbers and values (document 01, "Refusal numbers"; 02, request L7).
use Rattle.answers.specs.declared.Refusal.{Refusal}
use Rattle.std.specs.Prelude.{ℕ, Option, Some, None, Result, Ok, Err}
use Rattle.answers.specs.Numbered.{Numbered, succeeds, refuses}
use Rattle.answers.specs.Refusals.{room_number}
use Rattle.convert.specs.declared.Run.{Run}
use Rattle.convert.specs.declared.feeds.FeedAnswer.{FeedAnswer}
use Rattle.convert.specs.declared.feeds.FeedAnswer.TheVariants as answer

-- block 0: the run
abbrev pub begin_as : Result Run Refusal → Numbered (Option Run)
begin_as (Ok run) = succeeds (Some run)
begin_as (Err refusal) = refuses refusal None

-- a stretch: the length of the rows, also with 12; and the number of a refused block
abbrev pub feed_as : FeedAnswer → Numbered (Option ℕ × Option ℕ)
feed_as (answer.Length n) = succeeds (Some n, None)
feed_as (answer.Room n) = record { number = room_number; values = (Some n, None) }
feed_as (answer.Refused refusal) = refuses refusal (None, None)
feed_as (answer.Faulty refusal block n) = refuses refusal (Some n, Some block)
