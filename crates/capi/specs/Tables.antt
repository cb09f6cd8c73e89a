-- What the calls on a table of several sources answer, and what they leave in the lent words (include/flasknib.h, "several RTP sources in one table").
use Rattle.std.specs.Prelude.{◌≡◌, ℕ, ◌+◌, ◌*◌, cond, List, eqb, ltb, ℤ, pos, neg_ℤ, length, get_or, Option, Some, None}
use Rattle.answers.specs.declared.Refusal.{Refusal}
use Rattle.answers.specs.declared.Refusal.TheVariants.{Limits}
use Rattle.answers.specs.Refusals.{number_of}
use Rattle.sources.specs.declared.Place.{Place}
use Rattle.sources.specs.declared.Arrived.{Arrived}
use Rattle.sources.specs.declared.Arrived.TheVariants.{Accepted, Restarted, Refused}
use Rattle.sources.specs.declared.Counted.{Counted}
use Rattle.sources.specs.declared.Counted.TheVariants.{Block, Refused as NotCounted}
use Rattle.sources.specs.Places.{empty_place, held_of}
use Rattle.sources.specs.Answers.{or_else, arrive_answer, arrive_places, count_answer, count_places}
use Rattle.sources.specs.Compounds.{compound_bytes}
use Rattle.lent.specs.TableWords.{place_words, table_words, places_in, words_fault}
use Rattle.capi.specs.Codes.{length_code, refusal_code, Gives, Leaves}

-- ---- flasknib_sources_arrive

-- the refusals of the words come before the table's own
abbrev pub arrived_unless : Option Refusal → Arrived → Arrived
arrived_unless (Some refusal) answer = Refused refusal
arrived_unless None answer = answer

unfoldable pub table_arrived : List ℕ → ℕ → ℕ → ℕ → Arrived
table_arrived words ssrc wire mark = arrived_unless (words_fault words) (arrive_answer (places_in words) ssrc (record { 0 = wire }) mark)

-- 0, 128 for a restart, or the refusal
abbrev pub arrived_code : Arrived → ℕ
arrived_code Accepted = 0
arrived_code Restarted = 128
arrived_code (Refused refusal) = number_of refusal

-- the words of the next table; a refusal but 7 leaves the words as they were
abbrev pub arrived_words : List ℕ → List ℕ → Arrived → List ℕ
arrived_words words next Accepted = next
arrived_words words next Restarted = next
arrived_words words next (Refused refusal) = cond (eqb (number_of refusal) 7) next words

-- document 02, L1: 16, 9, 10, 15, 8, 7; or 0, or 128 for a restart, and the next table; 7 leaves its table too
abbrev pub CountsTableArrival : List ℕ → ℕ → ℕ → ℕ → ℕ → List ℕ → Type 0
CountsTableArrival words ssrc wire mark r out =
    Leaves
    (arrived_code (table_arrived words ssrc wire mark))
    (arrived_words words (table_words (arrive_places (places_in words) ssrc (record { 0 = wire }) mark)) (table_arrived words ssrc wire mark))
    r out

-- ---- flasknib_sources_count_block

abbrev pub counted_unless : Option Refusal → Counted → Counted
counted_unless (Some refusal) answer = NotCounted refusal
counted_unless None answer = answer

unfoldable pub table_counted : List ℕ → ℕ → ℕ → List ℕ → Counted
table_counted words ssrc width records = counted_unless (words_fault words) (count_answer (places_in words) ssrc width records)

-- 256 times the restarts and the jumps, or minus the refusal
abbrev pub counted_code : Counted → ℤ
counted_code (Block stand jumps restarts) = pos (256 * restarts + jumps)
counted_code (NotCounted refusal) = neg_ℤ (pos (number_of refusal))

-- the words of the next table, or the words as they were
abbrev pub counted_words : List ℕ → List ℕ → Counted → List ℕ
counted_words words next (Block stand jumps restarts) = next
counted_words words next (NotCounted refusal) = words

-- document 02, L1: 16, 9, 10, 15; or the restarts and jumps, and the next table
abbrev pub CountsTableBlock : List ℕ → ℕ → ℕ → List ℕ → ℤ → List ℕ → Type 0
CountsTableBlock words ssrc width records r out =
    Leaves
    (counted_code (table_counted words ssrc width records))
    (counted_words words (table_words (count_places (places_in words) ssrc width records)) (table_counted words ssrc width records))
    r out

-- ---- flasknib_sources_write_compound

-- document 02, L1: 16, 9, 12; or the bytes of the RR and of the held places' feedback
abbrev pub WritesTableCompound : List ℕ → ℕ → List ℕ → ℤ → List ℕ → Type 0
WritesTableCompound words sender old r out =
    Gives length_code
    (words_fault words)
    (compound_bytes sender (places_in words))
    old r out

-- ---- flasknib_sources_place

-- 10 for a place that is not one of the held ones in front
abbrev pub unheld : List Place → ℕ → Option Refusal
unheld ps place = cond (ltb place (length (held_of ps))) None (Some Limits)

-- 16, 9, 10, 12; or 0 and the 11 words of the place
abbrev pub GivesPlace : List ℕ → ℕ → List ℕ → ℕ → List ℕ → Type 0
GivesPlace words place old r found =
    Gives refusal_code
    (or_else (words_fault words) (unheld (places_in words) place))
    (place_words (get_or (places_in words) place empty_place))
    old r found

-- ---- flasknib_sources_held

-- how many, or minus the refusal
abbrev pub held_code : Option Refusal → ℕ → ℤ
held_code (Some refusal) n = neg_ℤ (pos (number_of refusal))
held_code None n = pos n

-- 16, 9; or how many places are held, all in front
abbrev pub TellsHeld : List ℕ → ℤ → Type 0
TellsHeld words r = r ≡ held_code (words_fault words) (length (held_of (places_in words)))
