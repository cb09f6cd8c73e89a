-- Calls on a table of several sources from C (include/flasknib.h, "several RTP sources in one table"), each on the words that the call before left; and demand 3 for
-- each source of it (demands/specs/EachSource).
use Rattle.std.specs.Prelude.{◌≡◌, true, List, map, ℕ, ℤ, pos, None}
use Rattle.answers.specs.Conditions.{all}
use Rattle.sources.specs.declared.Place.{Place}
use Rattle.sources.specs.Rules.{fault}
use Rattle.sources.specs.Stands.{record_of}
use Rattle.sources.specs.Answers.{arrive_places, count_answer, count_places}
use Rattle.sources.specs.Compounds.{compound_bytes}
use Rattle.sources.specs.Theorems.{answer}
use Rattle.lent.specs.TableWords.{table_words, places_in, words_fault, typed_place}
use Rattle.capi.specs.Codes.{length_code, Gives}
use Rattle.capi.specs.Tables.{table_arrived, arrived_code, arrived_words, table_counted, counted_code, counted_words, WritesTableCompound}
use Rattle.demands.specs.Calls.{TruePacket, arrivals}
use Rattle.demands.specs.Count.{count}
use Rattle.demands.specs.EachSource.{Call, arrives, counts, AllFit, behind_call, behind_all, Brings}
use Rattle.callers.specs.InTurn.{left_by, answers_of}

-- ---- a call on words: flasknib_sources_arrive or flasknib_sources_count_block

abbrev pub table_left : List ℕ → Call → List ℕ
table_left words (arrives a) =
    arrived_words words (table_words (arrive_places (places_in words) a.ssrc a.wire a.mark)) (table_arrived words a.ssrc a.wire.0 a.mark)
table_left words (counts ssrc width bytes) = counted_words words (table_words (count_places (places_in words) ssrc width bytes)) (table_counted words ssrc width bytes)

abbrev pub table_told : List ℕ → Call → ℤ
table_told words (arrives a) = pos (arrived_code (table_arrived words a.ssrc a.wire.0 a.mark))
table_told words (counts ssrc width bytes) = counted_code (table_counted words ssrc width bytes)

-- the same on places
abbrev pub places_told : List Place → Call → ℤ
places_told ps (arrives a) = pos (arrived_code (answer ps a))
places_told ps (counts ssrc width bytes) = counted_code (count_answer ps ssrc width bytes)

-- ---- lists of them

pub record TableInTurn (ps : List Place) (calls : List Call) : Type 0 where
  -- the calls answer and leave what the same calls on the places give
  pub answers : answers_of table_told table_left (table_words ps) calls ≡ answers_of places_told behind_call ps calls
  pub left : left_by table_left (table_words ps) calls ≡ table_words (behind_all ps calls)
  -- the next call reads the words as the places handed back, and refuses them neither with 16 nor with 9
  pub read : places_in (left_by table_left (table_words ps) calls) ≡ behind_all ps calls
  pub good : words_fault (left_by table_left (table_words ps) calls) ≡ None

-- from the words of a table that neither 16 nor 9 refuses, with the fields that its types have
abbrev pub TableCallsInTurn : Type 0
TableCallsInTurn = (ps : List Place) (calls : List Call) → fault ps ≡ None → all (map typed_place ps) ≡ true → AllFit calls → TableInTurn ps calls

-- demand 3 for a source of the table, over the calls that name it: in the words at the end its record is the count over its arrivals, and the compound written from
-- them by flasknib_sources_write_compound is that of the places, which carries the count (`EachSource`)
pub record SourceFromC (ps : List Place) (calls : List Call) (ssrc : ℕ) (tps : List TruePacket) : Type 0 where
  pub state : record_of ssrc (places_in (left_by table_left (table_words ps) calls)) ≡ count (arrivals tps)
  pub compound : (sender : ℕ) (old out : List ℕ) (r : ℤ) → WritesTableCompound (left_by table_left (table_words ps) calls) sender old r out
      → Gives length_code None (compound_bytes sender (behind_all ps calls)) old r out

abbrev pub EachSourceFromC : Type 0
EachSourceFromC =
    (ps : List Place) (calls : List Call) (ssrc : ℕ) (tps : List TruePacket) → all (map typed_place ps) ≡ true → Brings ps calls ssrc tps → SourceFromC ps calls ssrc tps
