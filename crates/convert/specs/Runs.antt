-- One run of the program ecntable (document 01, "Trace file" and "Table"): what each block does to it. `zeroth` is block 0.
use Rattle.answers.specs.declared.Refusal.{Refusal}
use Rattle.std.specs.Prelude.{ℕ, ◌*◌, Bool, cond, List, [], ◌∷◌, eqb, leb, length, take, drop, Result, Ok, Err}
use Rattle.answers.specs.Conditions.{all}
use Rattle.answers.specs.declared.Refusal.TheVariants.{Malformed}
use Rattle.format.specs.Blocks.{block_bytes, body_at, body_bytes}
use Rattle.format.specs.Forms.{shape_of, width}
use Rattle.source.specs.declared.Totals.{Totals}
use Rattle.source.specs.Record.{sound}
use Rattle.source.specs.Blocks.{block_count}
use Rattle.source.specs.Totals.{most_told, fresh_totals, with_block}
use Rattle.trace.specs.Contents.{label_ok}
use Rattle.trace.specs.Reading.{kind_in, count_in, ssrc_in}
use Rattle.trace.specs.Places.{zeroth_of, later_of}
use Rattle.trace.specs.declared.Zeroth.{Zeroth}
use Rattle.walk.specs.Steps.{Next, goes, refuses}
use Rattle.table.specs.Lines.{row_bytes}
use Rattle.convert.specs.declared.Run.{Run}

-- the label in block 0, and a run's row
abbrev pub label_of : Run → List ℕ → List ℕ
label_of run zeroth = take run.length (drop body_at zeroth)

unfoldable pub row_of : Run → List ℕ → List ℕ
row_of run zeroth = row_bytes (label_of run zeroth) run.ssrc run.totals

-- ---- block 0: a label

abbrev pub start_by : Result Zeroth Refusal → Result Run Refusal
start_by (Ok label) = Ok (record { form = label.form; length = label.length; ssrc = label.ssrc; totals = fresh_totals })
start_by (Err refusal) = Err refusal

unfoldable pub start_of : List ℕ → Result Run Refusal
start_of b = start_by (zeroth_of b)

-- ---- the others: arrivals of the label's form and SSRC

-- the run with the n arrivals of a block
unfoldable pub arrived : Run → ℕ → List ℕ → Run
arrived run n b = record {
  form = run.form;
  length = run.length;
  ssrc = run.ssrc;
  totals = with_block run.totals (block_count run.totals.source (width (shape_of run.form)) (take (n * width (shape_of run.form)) (drop body_at b)));
}

-- what a block does
abbrev pub next_by : Run → List ℕ → Result ℕ Refusal → Next Run
next_by run b (Ok n) = goes (arrived run n b)
next_by run b (Err refusal) = refuses refusal

unfoldable pub next_of : Run → List ℕ → Next Run
next_of run b = next_by run b (later_of run.form run.ssrc b)

-- ---- the call on a later block: 9, the block's refusal, 12

-- block 0 is the run's own: a label block with its form, length and SSRC
abbrev pub own_label : Run → List ℕ → List Bool
own_label run zeroth =
    eqb (length zeroth) block_bytes
    ∷ eqb (kind_in zeroth) (shape_of run.form).label
    ∷ eqb (count_in zeroth) run.length
    ∷ eqb (ssrc_in zeroth) run.ssrc
    ∷ []

abbrev pub sound_totals : Totals → List Bool
sound_totals t = sound t.source ∷ leb t.jumped most_told ∷ leb t.restarts most_told ∷ []

-- a run that block 0, its label and the totals allow, else 9
abbrev pub run_conditions : Run → List ℕ → List Bool
run_conditions run zeroth =
    all (own_label run zeroth)
    ∷ leb run.length body_bytes
    ∷ label_ok (label_of run zeroth)
    ∷ all (sound_totals run.totals)
    ∷ []

unfoldable pub sound_run : Run → List ℕ → Bool
sound_run run zeroth = all (run_conditions run zeroth)

-- 9 first of all
unfoldable pub call_next : Run → List ℕ → List ℕ → Next Run
call_next run zeroth b = cond (sound_run run zeroth) (next_of run b) (refuses Malformed)

-- the row that a block prints
abbrev pub row_in : List ℕ → Next Run → List ℕ
row_in zeroth (goes next) = row_of next zeroth
row_in zeroth (refuses refusal) = []
