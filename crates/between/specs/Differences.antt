-- Document 02, request L2: lost L, marked C and expected E between two ECN reports; each by document 01's rule, "Counting arrivals", on what came
-- between two reports, "the later counter minus the earlier one": the later report stands first.
use Rattle.answers.specs.declared.Refusal.{Refusal}
use Rattle.std.specs.Prelude.{cond, ℕ, ◌^◌, leb, Option, Some, None, Result, Ok, Err}
use Rattle.answers.specs.Numbered.{Numbered, succeeds, refuses}
use Rattle.answers.specs.declared.Refusal.TheVariants.{Limits}
use Rattle.numbers.specs.Since.{since, signed}
use Rattle.format.specs.declared.Counts.{Counts}
use Rattle.breaker.specs.declared.EcnCounts.{EcnCounts}
use Rattle.rtcp.specs.declared.Feedback.{Feedback}
use Rattle.between.specs.declared.Signals.{Signals}

-- L, read as signed since lost can fall, and C
unfoldable pub signals_of : Counts → Counts → Signals
signals_of later earlier =
    record { lost = signed 16 (since 16 later.lost earlier.lost); marked = since 16 later.ce earlier.ce }

-- E is how far the highest number went; 10 where it went back, its difference being 2^31 or more
unfoldable pub expecting_of : Signals → ℕ → ℕ → Result EcnCounts Refusal
expecting_of s later earlier =
    cond (leb (2 ^ 31) (since 32 later earlier)) (Err Limits)
    (Ok (record { lost = s.lost; marked = s.marked; expected = since 32 later earlier }))

-- what is answered, by the paper's number and values
abbrev pub between_as : Result EcnCounts Refusal → Numbered (Option EcnCounts)
between_as (Ok counts) = succeeds (Some counts)
between_as (Err refusal) = refuses refusal None

-- two feedbacks, each with its highest number
abbrev pub between_of : Feedback → Feedback → Result EcnCounts Refusal
between_of later earlier = expecting_of (signals_of later.counts earlier.counts) later.highest earlier.highest
