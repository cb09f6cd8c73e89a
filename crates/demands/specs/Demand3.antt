-- Demand 3. "Take any list of arrival calls from a fresh state, each on the state that the call before handed back, which nobody else
-- changes. Calls with a mark above 3 may stand anywhere in it; they are refused with 10. Every other call, 1 to 2^48 of them, brings an
-- arrival: a mark and a true, unwrapped sequence number, of which the program sees 16 bits. Let the first of these numbers be from 0 to
-- 65,535, and each later one at most 99 below and at most 2,999 above the highest before it among them. Then all these arrivals are
-- accepted. Every field of the state at the end is exactly what document 01's count over them gives, and every report written from it
-- carries that count. Any two such lists with the same arrivals, in whatever order, whose first arrival is the same, end in the same state."
use Rattle.std.specs.Prelude.{◌≡◌, List, true, ℕ, ◌^◌, ◌≤◌, None}
use Rattle.numbers.specs.Integers.{modulo}
use Rattle.source.specs.Record.{fresh_record}
use Rattle.report.specs.Reports.{fault, feedback_of, feedback_bytes, summary_of, summary_bytes}
use Rattle.source.specs.Totals.{most_told}
use Rattle.trace.specs.Contents.{label_ok}
use Rattle.demands.specs.Calls.{TruePacket, AnsweredFrom, arrivals, run, Described}
use Rattle.demands.specs.Count.{base_of, greatest_in, count, counts_in, SameArrivals}
use Rattle.demands.specs.TableRow.{Row}

pub record Outcome (ps : List TruePacket) : Type 0 where
  -- every arrival is accepted, and every call with a mark above 3 is refused with 10 and the given state
  pub answers : AnsweredFrom fresh_record ps
  -- every field of the state at the end is what the count over the arrivals gives
  pub state : run ps ≡ count (arrivals ps)
  -- a report on it is not refused with 9, and carries the count: the feedback packet and the summary block, whatever the SSRCs
  pub sound : fault (run ps) ≡ None
  pub feedback : (sender media : ℕ)
      → feedback_bytes sender media (run ps) ≡ feedback_of sender media (modulo (2 ^ 32) (greatest_in (arrivals ps))) (counts_in (arrivals ps))
  pub summary : (media : ℕ) → summary_bytes media (run ps) ≡ summary_of media (counts_in (arrivals ps))
  -- and so does a row of the table, with any label that a trace can have
  pub row : (label : List ℕ) (ssrc jumped restarts : ℕ) → label_ok label ≡ true → jumped ≤ most_told → restarts ≤ most_told → Row ps label ssrc jumped restarts
  -- any other such list with the same arrivals and the same first one ends in the same state
  pub order : (qs : List TruePacket) → Described qs → SameArrivals (arrivals ps) (arrivals qs) → base_of (arrivals ps) ≡ base_of (arrivals qs) → run ps ≡ run qs

abbrev pub Demand3 : Type 0
Demand3 = (ps : List TruePacket) → Described ps → Outcome ps
