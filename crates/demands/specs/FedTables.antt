-- Demand 3 over a trace that arrives bit by bit (document 02, request L7): the rows that are fed, however the trace is cut, are the table with the count.
use Rattle.std.specs.Prelude.{◌≡◌, List, ℕ, ◌≤◌, length}
use Rattle.source.specs.declared.Totals.{Totals}
use Rattle.walk.specs.Blocks.{blocks_of, joined}
use Rattle.walk.specs.Pieces.{Octets}
use Rattle.convert.specs.declared.feeds.FeedAnswer.TheVariants.{Length}
use Rattle.convert.specs.Feeds.{most_fed, Given, close_of}
use Rattle.convert.specs.FeedTheorems.{unfed, FreshLent, feed_all, Enough}
use Rattle.demands.specs.Calls.{TruePacket, Described}
use Rattle.demands.specs.PrintedTable.{Holds, rows, rows_then}
use Rattle.demands.specs.TableRow.{count_row}

pub record FedTable (trace label : List ℕ) (ssrc : ℕ) (ps : List TruePacket) (fed : Given) : Type 0 where
  -- one row per block, with the values of the count over the arrivals up to its end
  pub table : fed.rows ≡ joined (rows label ssrc ps 0 (blocks_of trace).others)
  -- the last has the values of the count over all arrivals, where there are some
  pub last : 1 ≤ length ps → (front : List Totals) × (fed.rows ≡ rows_then label ssrc front (count_row label ssrc ps 0 0))
  -- a closing call refuses nothing
  pub answer : (close_of fed.upload fed.lent).answer ≡ Length 0

abbrev pub FedHoldsCount : Type 0
FedHoldsCount =
    (rooms : ℕ → ℕ) (lent : List ℕ) (xs : List (List ℕ)) (label : List ℕ) (ssrc : ℕ) (ps : List TruePacket)
    → FreshLent lent → Octets (joined xs) → length (joined xs) ≤ most_fed → Enough rooms 0 (unfed lent) xs → Described ps → Holds (joined xs) label ssrc ps
    → FedTable (joined xs) label ssrc ps (feed_all rooms 0 (unfed lent) xs)
