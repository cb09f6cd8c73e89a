-- The hypotheses of the theorems named below can be met: for each of them, values that meet them all.
use Rattle.answers.specs.declared.Unwritten.{Unwritten}
use Rattle.std.specs.Prelude.{◌≡◌, true, List, [], ◌∷◌, ◌++◌, map, ℕ, ◌^◌, ◌≤◌, ◌<◌, pos, neg_ℤ, ◌-ℤ◌, length, take, replicate, ◌≤ℤ◌, ◌<ℤ◌, Some, None, Ok, Err}
use Rattle.answers.specs.Writers.{written}
use Rattle.answers.specs.declared.Refusal.TheVariants.{Incomplete, PacketSize}
use Rattle.format.specs.Blocks.{block_bytes}
use Rattle.format.specs.Forms.{shape_of}
use Rattle.format.specs.declared.Form.TheVariants.{One}
use Rattle.source.specs.Record.{sound}
use Rattle.source.specs.Totals.{fresh_totals, most_told}
use Rattle.report.specs.Reports.{feedback_bytes}
use Rattle.rtcp.specs.declared.Profile.{Profile}
use Rattle.rtcp.specs.Compound.{reading}
use Rattle.sources.specs.Compounds.{receiver_report}
use Rattle.trace.specs.Contents.{label_ok}
use Rattle.trace.specs.Layout.{label_block, arrivals_block, body_of}
use Rattle.trace.specs.Reading.{right_check, block_of}
use Rattle.trace.specs.Retired.{retired_in}
use Rattle.trace.specs.Writing.{records_of, arrivals_fault}
use Rattle.trace.specs.Theorems.{Below}
use Rattle.trace.specs.declared.Block.TheVariants.{Label, Arrivals}
use Rattle.table.specs.Lines.{row_fault}
use Rattle.answers.specs.Texts.{codes}
use Rattle.table.specs.Theorems.{all_plain}
use Rattle.walk.specs.Blocks.{blocks_of}
use Rattle.walk.specs.Programs.{walk, walked}
use Rattle.walk.specs.Steps.{fault_in}
use Rattle.convert.specs.declared.Run.{Run}
use Rattle.convert.specs.Runs.{call_next, row_in}
use Rattle.convert.specs.Tables.{ecntable}
use Rattle.mixed.specs.Tables.{ecnstreams}
use Rattle.mixed.specs.Witnesses.{trace as sources}
use Rattle.demands.specs.Calls.{TruePacket, wire_of, arrivals, run, Described}
use Rattle.demands.specs.Count.{base_of, SameArrivals}
use Rattle.demands.specs.PrintedTable.{Holds}
use Rattle.demands.specs.Examples.{c1}

-- ---- lists of calls

abbrev pub packet : ℕ → ℕ → TruePacket
packet number mark = record { number = pos number; mark = mark }

-- over the wrap, with a mark above 3 in the middle and a number 99 below the highest
abbrev pub wrapped : List TruePacket
wrapped = packet 65530 2 ∷ packet 65540 1 ∷ packet 65541 7 ∷ packet 65441 0 ∷ packet 65540 3 ∷ []

-- the same arrivals in another order
abbrev pub reordered : List TruePacket
reordered = packet 65530 2 ∷ packet 65441 0 ∷ packet 65540 3 ∷ packet 65540 1 ∷ []

-- C1
abbrev pub c1_packets : List TruePacket
c1_packets = packet 65534 2 ∷ packet 65535 2 ∷ packet 65536 3 ∷ packet 65536 3 ∷ packet 65539 1 ∷ []

-- ---- traces of C1's arrivals, cut into blocks in two ways

abbrev pub text : List ℕ
text = codes "probe 2, left"

abbrev pub label : List ℕ
label = label_block (shape_of One) text 1

abbrev pub block : List ℕ → List ℕ → List ℕ → List ℕ
block times numbers marks = arrivals_block (shape_of One) (records_of times numbers marks) 1

abbrev pub c1_block : List ℕ
c1_block = block (0 ∷ 20 ∷ 40 ∷ 41 ∷ 100 ∷ []) (65534 ∷ 65535 ∷ 0 ∷ 0 ∷ 3 ∷ []) (2 ∷ 2 ∷ 3 ∷ 3 ∷ 1 ∷ [])

abbrev pub whole : List ℕ
whole = label ++ c1_block

abbrev pub cut : List ℕ
cut = label ++ (block (0 ∷ 20 ∷ []) (65534 ∷ 65535 ∷ []) (2 ∷ 2 ∷ []) ++ block (40 ∷ 41 ∷ 100 ∷ []) (0 ∷ 0 ∷ 3 ∷ []) (3 ∷ 3 ∷ 1 ∷ []))

-- the run that the label block begins
abbrev pub begun : Run
begun = record { form = One; length = length text; ssrc = 1; totals = fresh_totals }

-- ---- what they meet, by theorem

pub record Met : Type 0 where
  -- Demand3, and its part on the order
  pub described : Described wrapped
  pub again : Described reordered × SameArrivals (arrivals wrapped) (arrivals reordered) × (base_of (arrivals wrapped) ≡ base_of (arrivals reordered))
  pub c1_described : Described c1_packets
  pub c1_seen : map (λ p. ((wire_of p.number).0, p.mark)) c1_packets ≡ c1
  -- its part on the table's row
  pub few_jumped : 3 ≤ most_told
  pub few_restarts : 2 ≤ most_told
  -- TableHoldsCount and SameLastRow
  pub held : Holds whole text 1 c1_packets
  pub recut : Holds cut text 1 c1_packets
  -- OneStream, with the label and the blocks of `held`
  pub whole_bytes : Below 256 whole
  pub some_blocks : 1 ≤ length (blocks_of whole).others
  -- LinesAreTable
  pub none_refused : (walked ecnstreams (blocks_of sources)).ended ≡ None
  -- NothingFollows: an empty block is 1
  pub ends :
      (walk ecntable 1 ([] ∷ []) (record { run = begun; zeroth = label })).ended
      ≡ Some (record { refusal = Incomplete; block = 1 })
  -- LabelReadsBack, LabelIsWritten, SpacedReads, OneCheck, RowSplits, LineSplits
  pub label_new : retired_in (take (length text) (body_of label)) ≡ 0
  pub label_bytes : Below 256 label
  pub label_reads : block_of label ≡ Ok (Label One (length text) 1)
  pub label_right : right_check label ≡ true
  pub label_long : length label ≡ block_bytes
  pub label_ok_lem : label_ok text ≡ true
  pub plain : all_plain (text ∷ codes "a \"b\"" ∷ []) ≡ true
  -- ArrivalsReadBack, ArrivalsAreWritten
  pub lists_fit : arrivals_fault (shape_of One) (0 ∷ 20 ∷ []) (65534 ∷ 65535 ∷ []) (2 ∷ 2 ∷ []) ≡ None
  pub numbers_fit_lem : Below (2 ^ 16) (65534 ∷ 65535 ∷ [])
  pub arrivals_bytes : Below 256 c1_block
  pub arrivals_read : block_of c1_block ≡ Ok (Arrivals One 5 1)
  -- SinceExact, SignedExact
  pub since : (pos 0 ≤ℤ (pos 65540 -ℤ pos 65530)) × ((pos 65540 -ℤ pos 65530) <ℤ pos (2 ^ 16))
  pub signed : (neg_ℤ (pos (2 ^ 15)) ≤ℤ (pos 2 -ℤ pos 7)) × ((pos 2 -ℤ pos 7) <ℤ pos (2 ^ 15))
  -- SoundStays
  pub c1_sound : sound (run c1_packets) ≡ true
  -- FeedbackReadsBack, SummaryReadsBack: the sender's SSRC and the media SSRC
  pub ssrcs : (9 < 2 ^ 32) × (1 < 2 ^ 32)
  -- ProfilesAgree: an RR is read, and refused with 4 where its last bytes are cut off
  pub rr_read : reading (receiver_report 5) 1 Profile.Compound
      ≡ Ok (record { report = None; feedback = None; summary = None; reporting = true })
  pub rr_cut : reading (take 6 (receiver_report 5)) 1 Profile.Compound ≡ Err PacketSize
  -- RowFits
  pub row_accepted : row_fault text (record { source = run c1_packets; jumped = 3; restarts = 2 }) ≡ None
  -- RoomIsExact, StepRoomIsExact: C1's feedback packet and its row, each with one byte too few
  pub room : written None (feedback_bytes 9 1 (run c1_packets)) (replicate 31 0) ≡ Err (Unwritten.Room 32)
  pub row_room : written (fault_in (call_next begun label c1_block)) (row_in label (call_next begun label c1_block)) (replicate 40 0) ≡ Err (Unwritten.Room 41)
