-- Demand 3 for a caller from C, all of it (demands/specs/Demand3): beside the answers and the words at the end (`Chain`), that the words are read as the count,
-- that every report and row that a C function writes from them carries it, and that the order does not matter.
use Rattle.std.specs.Prelude.{◌≡◌, true, List, map, ℕ, ◌^◌, ◌≤◌, ℤ, replicate, Some, None}
use Rattle.numbers.specs.Integers.{modulo}
use Rattle.source.specs.Record.{sound}
use Rattle.source.specs.Totals.{most_told}
use Rattle.report.specs.Reports.{feedback_of, summary_of}
use Rattle.trace.specs.Contents.{label_ok}
use Rattle.lent.specs.SourceWords.{loaded}
use Rattle.lent.specs.LostWords.{lost_words}
use Rattle.capi.specs.Codes.{length_code, refusal_code, Gives}
use Rattle.capi.specs.OneSource.{TellsLost, WritesFeedback, WritesSummary}
use Rattle.capi.specs.Blocks.{WritesRow}
use Rattle.capi.specs.Chains.{arrive_chain}
use Rattle.demands.specs.Calls.{TruePacket, arrivals, Described}
use Rattle.demands.specs.Count.{base_of, greatest_in, lost_of, count, counts_in, SameArrivals}
use Rattle.demands.specs.TableRow.{count_row}
use Rattle.callers.specs.Callers.{passed, Chain}

-- the words after the calls of a list, from ten words that were zero
abbrev pub end_words : List TruePacket → List ℕ
end_words ps = arrive_chain (replicate 10 0) (map passed ps)

-- each function is given by its contract: whatever it answers and leaves of these words, it answers and leaves that of the count
pub record EndFromC (ps : List TruePacket) : Type 0 where
  pub chain : Chain ps
  -- the next call reads the words as the record that the last handed back, which is sound: none is refused with 9
  pub read : loaded (end_words ps) ≡ Some (count (arrivals ps))
  pub sound : sound (count (arrivals ps)) ≡ true
  -- flasknib_write_feedback and flasknib_write_summary, whatever the SSRCs and the output
  pub feedback : (sender media : ℕ) (old out : List ℕ) (r : ℤ) → WritesFeedback (end_words ps) sender media old r out
      → Gives length_code None (feedback_of sender media (modulo (2 ^ 32) (greatest_in (arrivals ps))) (counts_in (arrivals ps))) old r out
  pub summary : (media : ℕ) (old out : List ℕ) (r : ℤ) → WritesSummary (end_words ps) media old r out
      → Gives length_code None (summary_of media (counts_in (arrivals ps))) old r out
  -- flasknib_lost
  pub lost : (old found : List ℕ) (r : ℕ) → TellsLost (end_words ps) old r found → Gives refusal_code None (lost_words (lost_of (arrivals ps))) old r found
  -- flasknib_write_row, with any label that a trace can have
  pub row : (label : List ℕ) (ssrc jumped restarts : ℕ) (old out : List ℕ) (r : ℤ) → label_ok label ≡ true → jumped ≤ most_told → restarts ≤ most_told
      → WritesRow label ssrc (end_words ps) jumped restarts old r out → Gives length_code None (count_row label ssrc (arrivals ps) jumped restarts) old r out
  -- any other such list with the same arrivals and the same first one ends in the same words
  pub order : (qs : List TruePacket) → Described qs → SameArrivals (arrivals ps) (arrivals qs) → base_of (arrivals ps) ≡ base_of (arrivals qs)
      → end_words ps ≡ end_words qs

abbrev pub Demand3FromC : Type 0
Demand3FromC = (ps : List TruePacket) → Described ps → EndFromC ps
