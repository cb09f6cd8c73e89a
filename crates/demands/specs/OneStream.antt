-- Request L1: for a trace of one source, ecnstreams prints the head line and the last row that ecntable prints.
use Rattle.std.specs.Prelude.{◌≡◌, List, ◌++◌, ℕ, ◌≤◌, length, Ok}
use Rattle.format.specs.declared.Form.{Form}
use Rattle.trace.specs.Reading.{block_of}
use Rattle.trace.specs.Theorems.{Below}
use Rattle.trace.specs.declared.Block.TheVariants.{Label}
use Rattle.table.specs.Lines.{head_bytes, row_bytes}
use Rattle.walk.specs.Blocks.{blocks_of}
use Rattle.walk.specs.Programs.{to_output}
use Rattle.sources.specs.Streams.{printed}
use Rattle.demands.specs.PrintedTable.{together, AllArrivals, EndsIn}
use Rattle.demands.specs.BothForms.{label_in, records_totals}

-- the row of a trace's label and an SSRC with the totals over the records of all its arrivals blocks
abbrev pub final_row : List ℕ → ℕ → ℕ → List ℕ
final_row trace n ssrc = row_bytes (label_in trace n) ssrc (records_totals (together (blocks_of trace).others))

-- where every other block holds arrivals of the label's form and SSRC, and there is one: ecnstreams prints the head line and that row alone, and what
-- ecntable prints ends in it
abbrev pub OneStream : Type 0
OneStream =
    (trace : List ℕ) (form : Form) (n ssrc : ℕ) → Below 256 trace → block_of (blocks_of trace).zeroth ≡ Ok (Label form n ssrc)
    → AllArrivals form ssrc (blocks_of trace).others → 1 ≤ length (blocks_of trace).others
    → (printed trace ≡ to_output (head_bytes ++ final_row trace n ssrc)) × EndsIn trace (label_in trace n) ssrc (final_row trace n ssrc)
