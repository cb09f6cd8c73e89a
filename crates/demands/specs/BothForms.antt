-- Request L10: both forms give the same final row.
use Rattle.std.specs.Prelude.{◌≡◌, List, [], map, ℕ, ◌≤◌, length, take, Ok}
use Rattle.format.specs.declared.Form.{Form}
use Rattle.source.specs.declared.Totals.{Totals}
use Rattle.source.specs.Record.{fresh_record}
use Rattle.source.specs.Blocks.{count_all}
use Rattle.source.specs.Totals.{fresh_totals, with_block}
use Rattle.trace.specs.Layout.{body_of}
use Rattle.trace.specs.Reading.{block_of}
use Rattle.trace.specs.Theorems.{Below}
use Rattle.trace.specs.declared.Block.TheVariants.{Label}
use Rattle.trace.specs.declared.Record.{Record}
use Rattle.table.specs.Lines.{row_bytes}
use Rattle.walk.specs.Blocks.{blocks_of}
use Rattle.forms.specs.Converted.{converted}
use Rattle.forms.specs.Theorems.{records_taken}
use Rattle.demands.specs.PrintedTable.{in_record, EndsIn}

-- the totals over records, counted in order from nothing
unfoldable pub records_totals : List Record → Totals
records_totals records = with_block fresh_totals (count_all (map in_record records) fresh_record 0 0)

-- a trace's label of n bytes
abbrev pub label_in : List ℕ → ℕ → List ℕ
label_in trace n = take n (body_of (blocks_of trace).zeroth)

-- the row of a trace's label and SSRC with the totals over the records of all its blocks
abbrev pub last_row : List ℕ → Form → ℕ → ℕ → List ℕ
last_row trace form n ssrc = row_bytes (label_in trace n) ssrc (records_totals (records_taken form ssrc (blocks_of trace).others))

-- where no block is refused and there is an arrivals block, what ecntable prints ends in that row, for the trace and for what ecnforms makes of it
abbrev pub BothForms : Type 0
BothForms =
    (trace : List ℕ) (form : Form) (n ssrc : ℕ) → Below 256 trace → block_of (blocks_of trace).zeroth ≡ Ok (Label form n ssrc) → (converted trace).err ≡ []
    → 1 ≤ length (blocks_of trace).others
    → EndsIn trace (label_in trace n) ssrc (last_row trace form n ssrc) × EndsIn (converted trace).out (label_in trace n) ssrc (last_row trace form n ssrc)
