-- Demand 3 in what ecntable prints (document 01, "Trace file" and "Table").
use Rattle.answers.specs.declared.Refusal.{Refusal}
use Rattle.std.specs.Prelude.{◌≡◌, true, List, [], ◌∷◌, ◌++◌, map, ℕ, ◌+◌, ◌≤◌, length, take, Result, Ok, Err}
use Rattle.format.specs.Forms.{shape_of}
use Rattle.format.specs.declared.Form.{Form}
use Rattle.source.specs.Blocks.{Packet}
use Rattle.source.specs.declared.Totals.{Totals}
use Rattle.trace.specs.Contents.{label_ok}
use Rattle.trace.specs.Layout.{body_of}
use Rattle.trace.specs.Reading.{count_in, block_of}
use Rattle.trace.specs.Theorems.{records_in}
use Rattle.trace.specs.declared.Block.{Block}
use Rattle.trace.specs.declared.Block.TheVariants.{Label, Arrivals}
use Rattle.trace.specs.declared.Record.{Record}
use Rattle.table.specs.Lines.{head_bytes, row_bytes}
use Rattle.walk.specs.Blocks.{blocks_of, joined}
use Rattle.walk.specs.Programs.{to_output}
use Rattle.convert.specs.Tables.{printed}
use Rattle.demands.specs.Calls.{TruePacket, wire_of, Described}
use Rattle.demands.specs.Count.{base_of, SameArrivals}
use Rattle.demands.specs.TableRow.{count_row}

-- ---- the trace

-- the wire number and the mark in a record, and of an arrival
abbrev pub in_record : Record → Packet
in_record r = record { wire = r.number; mark = r.mark }

abbrev pub of_arrival : TruePacket → Packet
of_arrival p = record { wire = wire_of p.number; mark = p.mark }

-- the records of a block, and of blocks together, in order
abbrev pub records_by : List ℕ → Result Block Refusal → List Record
records_by b (Ok (Arrivals form n ssrc)) = records_in (shape_of form) n (body_of b)
records_by b (Ok (Label form n ssrc)) = []
records_by b (Err refusal) = []

abbrev pub together : List (List ℕ) → List Record
together [] = []
together (b ∷ bs) = records_by b (block_of b) ++ together bs

-- each block holds arrivals of this form and SSRC
abbrev pub AllArrivals : Form → ℕ → List (List ℕ) → Type 0
AllArrivals form ssrc [] = Unit {0}
AllArrivals form ssrc (b ∷ bs) = (n : ℕ) × (block_of b ≡ Ok (Arrivals form n ssrc)) × AllArrivals form ssrc bs

-- a label block, then arrivals blocks of its form and SSRC whose records, taken together in order, are what the program sees of the arrivals `ps`
pub record Holds (trace label : List ℕ) (ssrc : ℕ) (ps : List TruePacket) : Type 0 where
  pub form : Form
  pub zeroth : block_of (blocks_of trace).zeroth ≡ Ok (Label form (length label) ssrc)
  pub text : take (length label) (body_of (blocks_of trace).zeroth) ≡ label
  pub others : AllArrivals form ssrc (blocks_of trace).others
  pub records : map in_record (together (blocks_of trace).others) ≡ map of_arrival ps

-- ---- the table

-- one row per block, with the values of the count over the arrivals up to its end, jumped 0 and restarts 0; k of them stand in the blocks before
unfoldable pub rows : List ℕ → ℕ → List TruePacket → ℕ → List (List ℕ) → List (List ℕ)
rows label ssrc ps k [] = []
rows label ssrc ps k (b ∷ bs) = count_row label ssrc (take (k + count_in b) ps) 0 0 ∷ rows label ssrc ps (k + count_in b) bs

-- rows of a label and an SSRC, one for each of the totals in `front`, and `row` as the last
abbrev pub rows_then : List ℕ → ℕ → List Totals → List ℕ → List ℕ
rows_then label ssrc front row = joined (map (row_bytes label ssrc) front) ++ row

-- what is printed is the head line, such rows, and `row` as the last
abbrev pub EndsIn : List ℕ → List ℕ → ℕ → List ℕ → Type 0
EndsIn trace label ssrc row = (front : List Totals) × (printed trace ≡ to_output (head_bytes ++ rows_then label ssrc front row))

pub record Table (trace label : List ℕ) (ssrc : ℕ) (ps : List TruePacket) : Type 0 where
  -- nothing is printed but the head line and one row per block
  pub lines : printed trace ≡ to_output (head_bytes ++ joined (rows label ssrc ps 0 (blocks_of trace).others))
  -- the last has the values of the count over all arrivals, where there are some
  pub last : 1 ≤ length ps → EndsIn trace label ssrc (count_row label ssrc ps 0 0)

abbrev pub TableHoldsCount : Type 0
TableHoldsCount = (trace label : List ℕ) (ssrc : ℕ) (ps : List TruePacket) → Described ps → Holds trace label ssrc ps → Table trace label ssrc ps

-- two such traces with the same label, SSRC and arrivals, the first the same, end in the same row, whatever their forms and however they are cut into blocks
abbrev pub SameLastRow : Type 0
SameLastRow =
    (trace other label : List ℕ) (ssrc : ℕ) (ps qs : List TruePacket) → Described ps → Described qs → Holds trace label ssrc ps → Holds other label ssrc qs
    → SameArrivals ps qs → base_of ps ≡ base_of qs → 1 ≤ length ps
    → EndsIn trace label ssrc (count_row label ssrc ps 0 0) × EndsIn other label ssrc (count_row label ssrc ps 0 0)

-- and there is one last row: a table that ends in two rows of totals ends in the same row
abbrev pub OneLastRow : Type 0
OneLastRow =
    (trace label : List ℕ) (ssrc : ℕ) (t u : Totals) → label_ok label ≡ true → EndsIn trace label ssrc (row_bytes label ssrc t)
    → EndsIn trace label ssrc (row_bytes label ssrc u) → row_bytes label ssrc t ≡ row_bytes label ssrc u
