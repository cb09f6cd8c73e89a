-- The rows of a run (document 02, L1): one for each held place, in rising order of SSRC. `zeroth` is block 0.
use Rattle.std.specs.Prelude.{ℕ, Bool, cond, ◌≡◌, List, [], ◌∷◌, map, eqb, leb, length, take, drop, get_or, Option, Some, None, Result}
use Rattle.answers.specs.Conditions.{all}
use Rattle.answers.specs.declared.Refusal.{Refusal}
use Rattle.answers.specs.declared.Refusal.TheVariants.{Malformed, Limits}
use Rattle.format.specs.Blocks.{block_bytes, body_at}
use Rattle.format.specs.Forms.{shape_of}
use Rattle.source.specs.declared.Totals.{Totals}
use Rattle.source.specs.Totals.{fresh_totals}
use Rattle.trace.specs.Contents.{label_ok}
use Rattle.trace.specs.Reading.{kind_in, count_in}
use Rattle.table.specs.Lines.{row_bytes}
use Rattle.walk.specs.Blocks.{joined}
use Rattle.sources.specs.declared.Place.{Place}
use Rattle.sources.specs.declared.runs.Tally.{Tally}
use Rattle.sources.specs.declared.runs.Run.{Run}
use Rattle.sources.specs.Places.{held_of}
use Rattle.sources.specs.Checks.{checked_by}
use Rattle.sources.specs.Answers.{or_else}
use Rattle.sources.specs.Tables.{lent}
use Rattle.sources.specs.Tallies.{no_tally}
use Rattle.sources.specs.Runs.{run_fault}

-- ---- the lines of a run: its held places, each with its tally

-- an SSRC, and the totals of its source
pub record Line : Type 0 where
  pub ssrc : ℕ
  pub totals : Totals

abbrev pub line_of : Place → Tally → Line
line_of p t = record { ssrc = p.ssrc; totals = record { source = p.source; jumped = t.jumped; restarts = t.restarts } }

unfoldable pub lines_from : List Place → List Tally → List Line
lines_from [] ts = []
lines_from (p ∷ ps) ts = line_of p (get_or ts 0 no_tally) ∷ lines_from ps (drop 1 ts)

unfoldable pub lines_of : Run → List Line
lines_of run = lines_from (held_of (lent run.table)) run.tallies

-- ---- their rows

-- the label in block 0
abbrev pub label_of : Run → List ℕ → List ℕ
label_of run zeroth = take run.length (drop body_at zeroth)

abbrev pub row_in : List ℕ → Line → List ℕ
row_in label l = row_bytes label l.ssrc l.totals

unfoldable pub rows_of : List ℕ → List Line → List ℕ
rows_of label ls = joined (map (row_in label) ls)

-- ---- the call for one row: 16 and 9 for the run, 9 for block 0, 10 for no such line

-- block 0 is the run's own: a label block with its form and length
abbrev pub own_conditions : Run → List ℕ → List Bool
own_conditions run zeroth =
    eqb (length zeroth) block_bytes
    ∷ eqb (kind_in zeroth) (shape_of run.form).label
    ∷ eqb (count_in zeroth) run.length
    ∷ label_ok (label_of run zeroth)
    ∷ []

-- 9 for another
unfoldable pub rows_fault : Run → List ℕ → Option Refusal
rows_fault run zeroth = or_else (run_fault run) (cond (all (own_conditions run zeroth)) None (Some Malformed))

-- 10 for a line that is not held
unfoldable pub row_fault : Run → ℕ → List ℕ → Option Refusal
row_fault run i zeroth = or_else (rows_fault run zeroth) (cond (leb (length (held_of (lent run.table))) i) (Some Limits) None)

-- there is no line behind the last
abbrev pub no_line : Line
no_line = record { ssrc = 0; totals = fresh_totals }

unfoldable pub row_of : Run → ℕ → List ℕ → List ℕ
row_of run i zeroth = row_in (label_of run zeroth) (get_or (lines_of run) i no_line)

-- ---- what the writers of rows rest on

-- how many places are held, or the refusal
abbrev pub judged_with : Run → List ℕ → Result ℕ Refusal
judged_with run zeroth = checked_by (rows_fault run zeroth) (length (held_of (lent run.table)))

-- neither 16 nor 9, and n places are held
pub record Judged (run : Run) (zeroth : List ℕ) (n : ℕ) : Type 0 where
  pub good : rows_fault run zeroth ≡ None
  pub count : n ≡ length (held_of (lent run.table))
