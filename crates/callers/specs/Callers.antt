-- Demand 3 for a caller from C (include/flasknib.h, "one RTP source"): calls of flasknib_arrive on ten words that were zero at first, each on
-- the words that the call before left.
use Rattle.std.specs.Prelude.{◌≡◌, cond, List, map, ℕ, leb, replicate}
use Rattle.lent.specs.SourceWords.{source_words}
use Rattle.capi.specs.Chains.{arrive_chain, arrive_codes}
use Rattle.demands.specs.Calls.{TruePacket, wire_of, arrivals, Described}
use Rattle.demands.specs.Count.{count}

-- the wire number and the mark that the caller passes
abbrev pub passed : TruePacket → ℕ × ℕ
passed p = ((wire_of p.number).0, p.mark)

-- 0 for an arrival, 10 for a mark above 3
abbrev pub answer_to : TruePacket → ℕ
answer_to p = cond (leb p.mark 3) 0 10

pub record Chain (ps : List TruePacket) : Type 0 where
  pub answers : arrive_codes (replicate 10 0) (map passed ps) ≡ map answer_to ps
  -- the words at the end are the words of the count
  pub words : arrive_chain (replicate 10 0) (map passed ps) ≡ source_words (count (arrivals ps))

abbrev pub ChainHoldsCount : Type 0
ChainHoldsCount = (ps : List TruePacket) → Described ps → Chain ps
