-- Document 02, request L2, over calls: what two of our own reports tell of the arrival calls that were made between them. (Document 01, "Counting arrivals":
-- each difference is the true one where that is in the range of its width; 02, L5: where no restart lies between.)
use Rattle.rtcp.specs.declared.Compound.{Compound}
use Rattle.answers.specs.declared.Refusal.{Refusal}
use Rattle.rtcp.specs.declared.Feedback.{Feedback}
use Rattle.std.specs.Prelude.{◌≡◌, List, ℕ, ◌^◌, ◌≤◌, ◌<◌, pos, neg_ℤ, ◌-ℤ◌, ◌≤ℤ◌, ◌<ℤ◌, Option, Some, None, Result, Ok, Err}
use Rattle.source.specs.declared.Source.{Source}
use Rattle.source.specs.Record.{arrivals}
use Rattle.source.specs.Blocks.{Packet}
use Rattle.source.specs.Between.{Leads, came, with_mark, is_new, expected}
use Rattle.rtcp.specs.declared.Profile.{Profile}
use Rattle.rtcp.specs.Compound.{reading}
use Rattle.breaker.specs.declared.EcnCounts.{EcnCounts}
use Rattle.between.specs.Differences.{between_of}
use Rattle.demands.specs.Between.{lost_between}
use Rattle.demands.specs.BetweenReports.{feedback_from}
use Rattle.demands.specs.OwnReports.{own_compound}

-- the calls `ps` from s to t that a report's counters can tell: 0 to 65,535 marked, 0 to 2^31 - 1 expected, -32,768 to 32,767 lost
pub record Tellable (s : Source) (ps : List Packet) (t : Source) : Type 0 where
  pub few_marked : came (with_mark 3) s ps < 2 ^ 16
  pub some_expected : pos 0 ≤ℤ (expected t -ℤ expected s)
  pub few_expected : (expected t -ℤ expected s) <ℤ pos (2 ^ 31)
  pub some_lost : neg_ℤ (pos (2 ^ 15)) ≤ℤ lost_between s ps t
  pub few_lost : lost_between s ps t <ℤ pos (2 ^ 15)

-- C is the number of calls accepted with CE, E the numbers expected since, and L those of E for which no call brought a new number
pub record OfCalls (s : Source) (ps : List Packet) (t : Source) (b : Result EcnCounts Refusal) : Type 0 where
  pub counts : EcnCounts
  pub given : b ≡ Ok counts
  pub marked : counts.marked ≡ came (with_mark 3) s ps
  pub expected_is : pos counts.expected ≡ expected t -ℤ expected s
  pub lost_is : counts.lost ≡ pos counts.expected -ℤ pos (came is_new s ps)

-- the feedback in a compound that was read
abbrev pub feedback_in : Result Compound Refusal → Option Feedback
feedback_in (Ok c) = c.feedback
feedback_in (Err refusal) = None

-- both compounds are read to a feedback, and what is given between the two is so
pub record Reported (s : Source) (ps : List Packet) (t : Source) (sender media : ℕ) (profile : Profile) : Type 0 where
  pub earlier : feedback_in (reading (own_compound sender media s) media profile) ≡ Some (feedback_from sender s)
  pub later : feedback_in (reading (own_compound sender media t) media profile) ≡ Some (feedback_from sender t)
  pub between : OfCalls s ps t (between_of (feedback_from sender t) (feedback_from sender s))

-- of any list of calls from a record that has counted to another, refused calls included, with no restart among them
abbrev pub ReportsTellCalls : Type 0
ReportsTellCalls =
    (s t : Source) (ps : List Packet) (sender media : ℕ) (profile : Profile) → sender < 2 ^ 32 → media < 2 ^ 32 → Leads s ps t → 1 ≤ arrivals s
    → Tellable s ps t → Reported s ps t sender media profile
