-- What came between two records of a run (document 01, "Counting arrivals": "What came between two reports"). Document 02, L5: the rule holds where
-- no restart lies between.
use Rattle.std.specs.Prelude.{ℕ, ◌+◌, ◌≤◌, ◌≡◌, Bool, true, false, cond, not, ◌&&◌, List, [], ◌∷◌, eqb, ℤ, pos, ◌+ℤ◌, ◌-ℤ◌}
use Rattle.source.specs.declared.History.{History}
use Rattle.source.specs.declared.Source.{Source}
use Rattle.source.specs.declared.Arrival.{Arrival}
use Rattle.source.specs.declared.Arrival.TheVariants.{Accepted, Restarted, Refused}
use Rattle.source.specs.declared.BlockCount.TheVariants.{Counted}
use Rattle.source.specs.declared.distances.Reach.{Reach}
use Rattle.source.specs.declared.distances.Reach.TheVariants.{Ahead, Behind, Jump}
use Rattle.source.specs.Places.{bit, marks}
use Rattle.source.specs.Distances.{reach_of}
use Rattle.source.specs.Record.{arrivals, fresh, lost}
use Rattle.source.specs.Arrivals.{distance, arrival, after}
use Rattle.source.specs.Blocks.{Packet, count_all}

-- the calls, each on the record that the one before handed back, lead from one record to another, and none of them is a restart
pub record Leads (s : Source) (ps : List Packet) (t : Source) : Type 0 where
  pub jumps : ℕ
  pub run : count_all ps s 0 0 ≡ Counted t jumps 0

-- ---- the calls that came between

abbrev pub accepted : Arrival → Bool
accepted (Accepted s) = true
accepted (Restarted s) = false
accepted (Refused refusal s) = false

-- how many were accepted and are of this kind, by the call and the record that it was made on
unfoldable pub came : (Source → Packet → Bool) → Source → List Packet → ℕ
came kind s [] = 0
came kind s (p ∷ ps) =
    bit (accepted (arrival s p.wire p.mark) && kind s p) + came kind (after (arrival s p.wire p.mark)) ps

-- one with this mark
abbrev pub with_mark : ℕ → Source → Packet → Bool
with_mark mark s p = eqb p.mark mark

-- one whose number has arrived before: it is highest - k, and the history marks place k
abbrev pub seen : History → Reach → Bool
seen past (Ahead d) = false
seen past (Behind k) = marks past k
seen past Jump = false

abbrev pub arrived_before : Source → Packet → Bool
arrived_before s p = seen s.history (reach_of (distance s.highest p.wire))

-- one that is no duplicate
abbrev pub is_new : Source → Packet → Bool
is_new s p = not (arrived_before s p)

-- ---- what the counters grow by

-- the numbers from base to highest (RFC 3550, appendix A.3: the packets expected)
unfoldable pub expected : Source → ℤ
expected s = cond (fresh s) (pos 0) (s.highest.0 -ℤ s.base.0 +ℤ pos 1)

pub record Grown (s : Source) (ps : List Packet) (t : Source) : Type 0 where
  -- each mark counter by the calls accepted with its mark, and the duplicates by those whose number had arrived before
  pub notect : t.notect ≡ s.notect + came (with_mark 0) s ps
  pub ect1 : t.ect1 ≡ s.ect1 + came (with_mark 1) s ps
  pub ect0 : t.ect0 ≡ s.ect0 + came (with_mark 2) s ps
  pub ce : t.ce ≡ s.ce + came (with_mark 3) s ps
  pub duplicates : t.duplicates ≡ s.duplicates + came arrived_before s ps
  -- lost by the numbers expected since, less the new ones that came: it can fall
  pub lost : lost t -ℤ lost s ≡ expected t -ℤ expected s -ℤ pos (came is_new s ps)
  -- once anything is counted the base stays, and the numbers expected are those by which highest has grown
  pub base : 1 ≤ arrivals s → t.base ≡ s.base
  pub highest : 1 ≤ arrivals s → expected t -ℤ expected s ≡ t.highest.0 -ℤ s.highest.0

abbrev pub GrowsByBetween : Type 0
GrowsByBetween = (s t : Source) (ps : List Packet) → Leads s ps t → Grown s ps t
