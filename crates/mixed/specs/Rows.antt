-- The call that writes the row of a line. `ws` are the lent words, `zeroth` is block 0.
use Rattle.std.specs.Prelude.{ℕ, ◌^◌, Bool, cond, not, ◌&&◌, List, [], ◌∷◌, eqb, leb, ltb, length, take, drop, get_or, Option, Some, None}
use Rattle.answers.specs.Conditions.{all}
use Rattle.answers.specs.declared.Refusal.{Refusal}
use Rattle.answers.specs.declared.Refusal.TheVariants.{Malformed, Limits}
use Rattle.format.specs.Blocks.{block_bytes, body_at, body_bytes}
use Rattle.format.specs.Forms.{shape_of}
use Rattle.source.specs.declared.Totals.{Totals}
use Rattle.trace.specs.Contents.{label_ok}
use Rattle.trace.specs.Reading.{kind_in, count_in}
use Rattle.table.specs.Lines.{row_bytes}
use Rattle.mixed.specs.declared.Run.{Run}
use Rattle.mixed.specs.Lines.{lines_in, ssrc_in, totals_in}
use Rattle.mixed.specs.Runs.{sound_run}

-- the label in block 0
abbrev pub label_of : Run → List ℕ → List ℕ
label_of run zeroth = take run.length (drop body_at zeroth)

-- block 0 is the run's own: a label block with its form and length
abbrev pub own_conditions : Run → List ℕ → List Bool
own_conditions run zeroth =
    eqb (length zeroth) block_bytes
    ∷ eqb (kind_in zeroth) (shape_of run.form).label
    ∷ eqb (count_in zeroth) run.length
    ∷ leb run.length body_bytes
    ∷ label_ok (label_of run zeroth)
    ∷ []

unfoldable pub own_label : Run → List ℕ → Bool
own_label run zeroth = all (own_conditions run zeroth)

-- the words of line i
abbrev pub line_at : Run → ℕ → List ℕ → List ℕ
line_at run i ws = get_or (lines_in run.held ws) i []

-- its totals, where its SSRC has 32 bits
abbrev pub totals_at : List ℕ → Option Totals
totals_at line = cond (ltb (ssrc_in line) (2 ^ 32)) (totals_in line) None

-- 9 where there are none
abbrev pub fault_by : Option Totals → Option Refusal
fault_by (Some t) = None
fault_by None = Some Malformed

-- 9 for the run, its words or block 0; 10 for no such line; 9 for a malformed one
unfoldable pub row_fault : Run → ℕ → List ℕ → List ℕ → Option Refusal
row_fault run i ws zeroth =
    cond (not (sound_run run ws && own_label run zeroth)) (Some Malformed)
    (cond (leb run.held i) (Some Limits)
    (fault_by (totals_at (line_at run i ws))))

abbrev pub row_by : List ℕ → ℕ → Option Totals → List ℕ
row_by label ssrc (Some t) = row_bytes label ssrc t
row_by label ssrc None = []

unfoldable pub row_of : Run → ℕ → List ℕ → List ℕ → List ℕ
row_of run i ws zeroth = row_by (label_of run zeroth) (ssrc_in (line_at run i ws)) (totals_at (line_at run i ws))
