-- The records of one arrivals block (document 01, "Trace file") counted in order.
use Rattle.std.specs.Prelude.{ℕ, zero, suc, ◌+◌, ◌-◌, ◌/◌, ◌%◌, Bool, cond, not, List, [], ◌∷◌, map, eqb, leb, length, get_or, drop}
use Rattle.numbers.specs.BigEndian.{word}
use Rattle.answers.specs.Conditions.{all}
use Rattle.format.specs.Blocks.{most_records, behind_time}
use Rattle.answers.specs.Refusals.{number_of}
use Rattle.answers.specs.declared.Refusal.TheVariants.{Malformed, Limits}
use Rattle.format.specs.declared.Wire.{Wire}
use Rattle.source.specs.declared.Source.{Source}
use Rattle.source.specs.declared.Arrival.{Arrival}
use Rattle.source.specs.declared.Arrival.TheVariants.{Accepted, Restarted, Refused}
use Rattle.source.specs.declared.BlockCount.{BlockCount}
use Rattle.source.specs.declared.BlockCount.TheVariants as block
use Rattle.source.specs.Places.{bit}
use Rattle.source.specs.Record.{sound}
use Rattle.source.specs.Arrivals.{arrival, after}

-- a wire number and a mark
pub record Packet : Type 0 where
  pub wire : Wire
  pub mark : ℕ

-- n records of `width` bytes each: the last four are the wire number (2), the mark (1) and a zero (1)
unfoldable pub packets : ℕ → ℕ → List ℕ → List Packet
packets width zero s = []
packets width (suc n) s =
    record { wire = record { 0 = word 2 s (width - behind_time) }; mark = get_or s (width - 2) 0 } ∷ packets width n (drop width s)

abbrev pub marks_fit : List Packet → Bool
marks_fit ps = all (map (λ p. leb p.mark 3) ps)

-- 1 to 62 whole records, no mark above 3
abbrev pub in_limits : ℕ → List ℕ → List Bool
in_limits width s =
    leb behind_time width
    ∷ eqb (length s % width) 0
    ∷ leb 1 (length s / width)
    ∷ leb (length s / width) most_records
    ∷ marks_fit (packets width (length s / width) s)
    ∷ []

-- whether an answer is refusal 7
abbrev pub jump : Arrival → ℕ
jump (Accepted s) = 0
jump (Restarted s) = 0
jump (Refused refusal s) = bit (eqb (number_of refusal) 7)

-- whether an answer is a restart
abbrev pub restart : Arrival → ℕ
restart (Accepted s) = 0
restart (Restarted s) = 1
restart (Refused refusal s) = 0

-- packets taken in order, each on the record that the one before handed back, going on after a refusal; and the jumps and restarts among them
unfoldable pub count_all : List Packet → Source → ℕ → ℕ → BlockCount
count_all [] s jumps restarts = block.Counted s jumps restarts
count_all (p ∷ ps) s jumps restarts =
    count_all ps (after (arrival s p.wire p.mark)) (jumps + jump (arrival s p.wire p.mark)) (restarts + restart (arrival s p.wire p.mark))

-- the answer to a block: refusals in the order 9, 10
unfoldable pub block_count : Source → ℕ → List ℕ → BlockCount
block_count s width bytes =
    cond (not (sound s)) (block.Refused Malformed s)
    (cond (not (all (in_limits width bytes))) (block.Refused Limits s)
    (count_all (packets width (length bytes / width) bytes) s 0 0))
