-- Document 02, request L2: what came between two of our own reports. (With a restart in between, L5, the later record has counted from then on alone.)
use Rattle.std.specs.Prelude.{◌≡◌, false, [], ◌∷◌, ℕ, pos, ◌+ℤ◌, ◌-ℤ◌, Ok}
use Rattle.source.specs.declared.Source.{Source}
use Rattle.source.specs.declared.Arrival.TheVariants.{Accepted}
use Rattle.source.specs.Record.{distinct, fresh_record, fresh, lost}
use Rattle.source.specs.Arrivals.{after}
use Rattle.source.specs.Between.{expected}
use Rattle.report.specs.Carried.{highest_of, counts_of}
use Rattle.rtcp.specs.declared.Feedback.{Feedback}
use Rattle.between.specs.Differences.{between_of}
use Rattle.between.specs.Theorems.{Truth, Told, Ahead, TrueCounts}
use Rattle.demands.specs.Examples.{answer_to, c1}

-- the counts in a record
abbrev pub truth_of : Source → Truth
truth_of s = record { highest = s.highest.0; ce = pos s.ce; lost = lost s }

-- the feedback that reads back from a record's report (specs/RoundTrip)
abbrev pub feedback_from : ℕ → Source → Feedback
feedback_from sender s = record { sender = sender; highest = highest_of s; counts = counts_of s }

-- L, C and E are the differences of the records, where these are in range
abbrev pub BetweenReports : Type 0
BetweenReports =
    (later earlier : Source) (sender : ℕ) → Told (truth_of later) (truth_of earlier) → Ahead (truth_of later) (truth_of earlier)
    → TrueCounts (truth_of later) (truth_of earlier) (between_of (feedback_from sender later) (feedback_from sender earlier))

-- the packets expected so far are those lost and the different ones that came (RFC 6679, section 5.1)
abbrev pub ExpectedInAll : Type 0
ExpectedInAll = (s : Source) → expected s ≡ lost s +ℤ pos (distinct s)

-- E is how many more are expected, of two records that have counted from the same base; the fresh record has no highest number
abbrev pub ExpectedBetween : Type 0
ExpectedBetween =
    (later earlier : Source) → fresh later ≡ false → fresh earlier ≡ false → later.base ≡ earlier.base
    → later.highest.0 -ℤ earlier.highest.0 ≡ expected later -ℤ expected earlier

abbrev pub second : Source
second = after (answer_to (Accepted fresh_record) ((65534, 2) ∷ (65535, 2) ∷ []))

abbrev pub last : Source
last = after (answer_to (Accepted fresh_record) c1)

-- C1's reports behind its second and its last packet: of 4 packets expected 2 are lost and 2 marked
pub record BetweenC1 : Type 0 where
  pub counted : (fresh last ≡ false) × (fresh second ≡ false) × (last.base ≡ second.base)
  pub told : Told (truth_of last) (truth_of second)
  pub ahead : Ahead (truth_of last) (truth_of second)
  pub counts : between_of (feedback_from 9 last) (feedback_from 9 second) ≡ Ok (record { lost = pos 2; marked = 2; expected = 4 })
