-- Calls of flasknib_count_block on one lent record, each on the words that the call before left (include/flasknib.h, "one RTP source").
use Rattle.std.specs.Prelude.{◌≡◌, true, cond, List, [], ◌∷◌, ◌++◌, map, ℕ, ◌+◌, ◌/◌, ℤ, length, replicate, Some}
use Rattle.answers.specs.Conditions.{all}
use Rattle.source.specs.declared.Source.{Source}
use Rattle.source.specs.declared.BlockCount.{BlockCount}
use Rattle.source.specs.declared.BlockCount.TheVariants.{Counted, Refused}
use Rattle.source.specs.Record.{fresh_record, sound, wire_number}
use Rattle.source.specs.Blocks.{Packet, packets, in_limits, count_all, block_count}
use Rattle.sources.specs.Answers.{behind}
use Rattle.walk.specs.Pieces.{Octets}
use Rattle.lent.specs.SourceWords.{source_words, loaded}
use Rattle.capi.specs.OneSource.{count_code, block_answer, block_words}
use Rattle.demands.specs.Calls.{TruePacket, Described}
use Rattle.demands.specs.Count.{count}
use Rattle.demands.specs.PrintedTable.{of_arrival}
use Rattle.callers.specs.InTurn.{left_by, answers_of, Every}

-- a call's arguments: the bytes of a record, and the records; these are bytes, as their type says
abbrev pub Block : Type 0
Block = ℕ × List ℕ

abbrev pub BlockFits : Block → Type 0
BlockFits b = Octets b.1

-- ---- the calls on words

abbrev pub blocks_left : List ℕ → List Block → List ℕ
blocks_left words bs = left_by (λ w b. block_words w b.0 b.1) words bs

abbrev pub blocks_answered : List ℕ → List Block → List ℤ
blocks_answered words bs = answers_of (λ w b. block_answer w b.0 b.1) (λ w b. block_words w b.0 b.1) words bs

-- ---- the same calls on a record

abbrev pub counts : Source → Block → BlockCount
counts s b = block_count s b.0 b.1

-- the jumps and restarts told
abbrev pub jumps_in : BlockCount → ℕ
jumps_in (Counted s jumps restarts) = jumps
jumps_in (Refused refusal s) = 0

abbrev pub restarts_in : BlockCount → ℕ
restarts_in (Counted s jumps restarts) = restarts
restarts_in (Refused refusal s) = 0

-- the record handed back
abbrev pub next : Source → Block → Source
next s b = behind (counts s b)

abbrev pub after_blocks : Source → List Block → Source
after_blocks s bs = left_by next s bs

abbrev pub sum : List ℕ → ℕ
sum [] = 0
sum (n ∷ ns) = n + sum ns

-- ---- all their records

-- the packets of a block in order; a block that is refused with 10 brings none
abbrev pub packets_in : Block → List Packet
packets_in b = cond (all (in_limits b.0 b.1)) (packets b.0 (length b.1 / b.0) b.1) []

abbrev pub packets_of : List Block → List Packet
packets_of [] = []
packets_of (b ∷ bs) = packets_in b ++ packets_of bs

pub record BlocksInTurn (words : List ℕ) (s : Source) (bs : List Block) : Type 0 where
  -- the calls answer and leave what the same calls on the record give
  pub answers : blocks_answered words bs ≡ answers_of (λ s b. count_code (counts s b)) next s bs
  pub left : blocks_left words bs ≡ source_words (after_blocks s bs)
  -- the next call reads the words as the record handed back, which is sound
  pub read : loaded (blocks_left words bs) ≡ Some (after_blocks s bs)
  pub sound : sound (after_blocks s bs) ≡ true
  -- the record is that of all packets, taken one by one, however they are cut into blocks; the jumps and restarts told are theirs
  pub all : count_all (packets_of bs) s 0 0
      ≡ Counted (after_blocks s bs) (sum (answers_of (λ s b. jumps_in (counts s b)) next s bs)) (sum (answers_of (λ s b. restarts_in (counts s b)) next s bs))

abbrev pub CountsBlocksInTurn : Type 0
CountsBlocksInTurn = (s : Source) (bs : List Block) → sound s ≡ true → wire_number s.remembered ≡ true → Every BlockFits bs → BlocksInTurn (source_words s) s bs

-- from ten words 0, where the packets are what the program sees of arrivals as demand 3 describes them, the words at the end are those of the count over them
abbrev pub BlocksHoldCount : Type 0
BlocksHoldCount =
    (ps : List TruePacket) (bs : List Block) → Described ps → Every BlockFits bs → packets_of bs ≡ map of_arrival ps
    → BlocksInTurn (replicate 10 0) fresh_record bs × (blocks_left (replicate 10 0) bs ≡ source_words (count ps))

-- such blocks: C1's arrivals in two, of 8 and of 10 bytes a record
abbrev pub c1_first : List ℕ
c1_first = 0 ∷ 0 ∷ 0 ∷ 0 ∷ 255 ∷ 254 ∷ 2 ∷ 0 ∷ 0 ∷ 0 ∷ 0 ∷ 20 ∷ 255 ∷ 255 ∷ 2 ∷ 0 ∷ []

abbrev pub c1_second : List ℕ
c1_second =
    0 ∷ 0 ∷ 0 ∷ 0 ∷ 0 ∷ 40 ∷ 0 ∷ 0 ∷ 3 ∷ 0 ∷ 0 ∷ 0 ∷ 0 ∷ 0 ∷ 0 ∷ 41 ∷ 0 ∷ 0 ∷ 3 ∷ 0 ∷ 0 ∷ 0 ∷ 0 ∷ 0 ∷ 0 ∷ 100 ∷ 0 ∷ 3 ∷ 1 ∷ 0 ∷ []

abbrev pub c1_blocks : List Block
c1_blocks = (8, c1_first) ∷ (10, c1_second) ∷ []
