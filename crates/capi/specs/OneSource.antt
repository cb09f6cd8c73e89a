-- What the calls on one source's record answer, and what they leave in the lent words (include/flasknib.h, "one RTP source").
use Rattle.std.specs.Prelude.{ℕ, ◌+◌, ◌*◌, cond, List, [], eqb, ℤ, pos, neg_ℤ, Option, Some, None, Result, Ok, Err}
use Rattle.answers.specs.declared.Refusal.{Refusal}
use Rattle.answers.specs.declared.Refusal.TheVariants.{Malformed}
use Rattle.answers.specs.Refusals.{number_of}
use Rattle.source.specs.declared.Arrival.{Arrival}
use Rattle.source.specs.declared.Arrival.TheVariants.{Accepted, Restarted, Refused}
use Rattle.source.specs.declared.BlockCount.{BlockCount}
use Rattle.source.specs.declared.BlockCount.TheVariants.{Counted, Refused as NotCounted}
use Rattle.source.specs.Record.{lost_answer}
use Rattle.source.specs.Arrivals.{arrival}
use Rattle.source.specs.Blocks.{block_count}
use Rattle.report.specs.Reports.{fault, feedback_bytes, summary_bytes}
use Rattle.lent.specs.SourceWords.{source_of, is_source, source_words}
use Rattle.lent.specs.LostWords.{lost_words}
use Rattle.capi.specs.Codes.{length_code, refusal_code, Gives, Leaves}

-- words that are no record's are refused with 9, before the refusals of its values
unfoldable pub record_fault : List ℕ → Option Refusal → Option Refusal
record_fault words fault = cond (is_source words) fault (Some Malformed)

-- ---- flasknib_arrive

-- 0, 128 for a restart, or the refusal
abbrev pub arrival_code : Arrival → ℕ
arrival_code (Accepted next) = 0
arrival_code (Restarted next) = 128
arrival_code (Refused refusal next) = number_of refusal

-- the words of the next record; a refusal but 7 leaves the words as they were
abbrev pub arrival_words : List ℕ → Arrival → List ℕ
arrival_words words (Accepted next) = source_words next
arrival_words words (Restarted next) = source_words next
arrival_words words (Refused refusal next) = cond (eqb (number_of refusal) 7) (source_words next) words

unfoldable pub arrive_answer : List ℕ → ℕ → ℕ → ℕ
arrive_answer words wire mark = cond (is_source words) (arrival_code (arrival (source_of words) (record { 0 = wire }) mark)) 9

unfoldable pub arrive_words : List ℕ → ℕ → ℕ → List ℕ
arrive_words words wire mark =
    cond (is_source words) (arrival_words words (arrival (source_of words) (record { 0 = wire }) mark)) words

-- "Counting arrivals": 9, 10, 8, 7; or 0, or 128 for a restart, and the next record; 7 leaves its record too
abbrev pub CountsArrival : List ℕ → ℕ → ℕ → ℕ → List ℕ → Type 0
CountsArrival words wire mark r out =
    Leaves
    (arrive_answer words wire mark)
    (arrive_words words wire mark)
    r out

-- ---- flasknib_count_block

-- 256 times the restarts and the jumps, or minus the refusal
abbrev pub count_code : BlockCount → ℤ
count_code (Counted next jumps restarts) = pos (256 * restarts + jumps)
count_code (NotCounted refusal same) = neg_ℤ (pos (number_of refusal))

-- the words of the next record, or the words as they were
abbrev pub count_words : List ℕ → BlockCount → List ℕ
count_words words (Counted next jumps restarts) = source_words next
count_words words (NotCounted refusal same) = words

unfoldable pub block_answer : List ℕ → ℕ → List ℕ → ℤ
block_answer words width records =
    cond (is_source words) (count_code (block_count (source_of words) width records)) (neg_ℤ (pos 9))

unfoldable pub block_words : List ℕ → ℕ → List ℕ → List ℕ
block_words words width records =
    cond (is_source words) (count_words words (block_count (source_of words) width records)) words

-- "Trace file", the records of an arrivals block: 9, 10; or the restarts and jumps, and the next record
abbrev pub CountsBlock : List ℕ → ℕ → List ℕ → ℤ → List ℕ → Type 0
CountsBlock words width records r out =
    Leaves
    (block_answer words width records)
    (block_words words width records)
    r out

-- ---- flasknib_lost

abbrev pub lost_fault : Result ℤ Refusal → Option Refusal
lost_fault (Ok lost) = None
lost_fault (Err refusal) = Some refusal

abbrev pub lost_found : Result ℤ Refusal → List ℕ
lost_found (Ok lost) = lost_words lost
lost_found (Err refusal) = []

-- "Counting arrivals", lost: 9, 12; or 0 and its word
abbrev pub TellsLost : List ℕ → List ℕ → ℕ → List ℕ → Type 0
TellsLost words old r found =
    Gives refusal_code
    (record_fault words (lost_fault (lost_answer (source_of words))))
    (lost_found (lost_answer (source_of words)))
    old r found

-- ---- flasknib_write_feedback, flasknib_write_summary

-- "Packets", ECN feedback: 9, 12; or its 32 bytes
abbrev pub WritesFeedback : List ℕ → ℕ → ℕ → List ℕ → ℤ → List ℕ → Type 0
WritesFeedback words sender media old r out =
    Gives length_code
    (record_fault words (fault (source_of words)))
    (feedback_bytes sender media (source_of words))
    old r out

-- "Packets", the ECN summary block: 9, 12; or its 24 bytes
abbrev pub WritesSummary : List ℕ → ℕ → List ℕ → ℤ → List ℕ → Type 0
WritesSummary words media old r out =
    Gives length_code
    (record_fault words (fault (source_of words)))
    (summary_bytes media (source_of words))
    old r out
