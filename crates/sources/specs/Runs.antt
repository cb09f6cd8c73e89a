-- The calls of a run of ecnstreams (document 02, L1) on block 0 and on later blocks: a table of 16 places, with the jumps and restarts of each source beside it.
use Rattle.answers.specs.declared.Unwritten.{Unwritten}
use Rattle.std.specs.Prelude.{ℕ, ◌*◌, Bool, cond, List, [], ◌∷◌, map, eqb, leb, length, take, drop, replicate, Option, Some, None, Result, Ok, Err}
use Rattle.answers.specs.Conditions.{all}
use Rattle.answers.specs.declared.Refusal.{Refusal}
use Rattle.answers.specs.declared.Refusal.TheVariants.{Malformed, Contents}
use Rattle.format.specs.Blocks.{body_at, body_bytes}
use Rattle.format.specs.Forms.{shape_of, width, same_form}
use Rattle.format.specs.declared.Form.{Form}
use Rattle.format.specs.declared.Form.TheVariants.{One}
use Rattle.trace.specs.Reading.{block_of}
use Rattle.trace.specs.declared.Block.{Block}
use Rattle.trace.specs.declared.Block.TheVariants as read
use Rattle.walk.specs.Steps.{Next, goes, refuses, Stepped}
use Rattle.sources.specs.declared.Table.{Table}
use Rattle.sources.specs.declared.Counted.{Counted}
use Rattle.sources.specs.declared.Counted.TheVariants as counted
use Rattle.sources.specs.declared.runs.Run.{Run}
use Rattle.sources.specs.declared.runs.Step.{Step}
use Rattle.sources.specs.Places.{held_of}
use Rattle.sources.specs.Rules.{most_places}
use Rattle.sources.specs.Answers.{or_else}
use Rattle.sources.specs.Checks.{checked_by}
use Rattle.sources.specs.Tables.{empty_table, lent, fault_in, counted_in}
use Rattle.sources.specs.Tallies.{no_tally, sound_tally, tallied}

-- ---- block 0: a label, whose SSRC binds nothing

-- no source yet
abbrev pub empty_run : Form → ℕ → Run
empty_run form n = record { form = form; length = n; table = empty_table most_places; tallies = replicate 16 no_tally }

-- the run that a refused label leaves
abbrev pub no_run : Run
no_run = empty_run One 0

-- 14 for arrivals
abbrev pub start_by : Result Block Refusal → Step
start_by (Ok (read.Label form n ssrc)) = record { answer = Ok 0; run = empty_run form n }
start_by (Ok (read.Arrivals form n ssrc)) = record { answer = Err (Unwritten.Refused Contents); run = no_run }
start_by (Err refusal) = record { answer = Err (Unwritten.Refused refusal); run = no_run }

unfoldable pub start_of : List ℕ → Step
start_of zeroth = start_by (block_of zeroth)

-- the refusal in a block's answer, if there is one
abbrev pub refusal_in : Result ℕ Unwritten → Option Refusal
refusal_in (Ok n) = None
refusal_in (Err (Unwritten.Room n)) = None
refusal_in (Err (Unwritten.Refused refusal)) = Some refusal

-- ---- a later block: arrivals of the label's form, counted by the table's call

-- the tallies move with the table
abbrev pub counted_by : Run → Table → Counted → Next Run
counted_by run table (counted.Block stand jumps restarts) =
    goes (record { form = run.form; length = run.length; table = table; tallies = tallied stand jumps restarts run.tallies })
counted_by run table (counted.Refused refusal) = refuses refusal

-- the n arrivals of a block
abbrev pub records_in : Form → ℕ → List ℕ → List ℕ
records_in form n b = take (n * width (shape_of form)) (drop body_at b)

unfoldable pub counted_run : Run → ℕ → ℕ → List ℕ → Next Run
counted_run run n ssrc b =
    let t = counted_in run.table ssrc (width (shape_of run.form)) (records_in run.form n b) in
    counted_by run t.table t.answer

-- 14 for a label, and for another form
abbrev pub next_by : Run → List ℕ → Result Block Refusal → Next Run
next_by run b (Ok (read.Arrivals form n ssrc)) = cond (same_form form run.form) (counted_run run n ssrc b) (refuses Contents)
next_by run b (Ok (read.Label form n ssrc)) = refuses Contents
next_by run b (Err refusal) = refuses refusal

unfoldable pub next_of : Run → List ℕ → Next Run
next_of run b = next_by run b (block_of b)

-- ---- the calls: first 16 and 9 for the run

-- 16 places, a length of a label, and at most 2^48 jumps and restarts of each
abbrev pub own_fields : Run → List Bool
own_fields run = eqb run.table.count most_places ∷ leb run.length body_bytes ∷ all (map sound_tally run.tallies) ∷ []

-- 16, and 9 for a held record, as the table says; then 9 for the run's own fields
unfoldable pub run_fault : Run → Option Refusal
run_fault run = or_else (fault_in run.table) (cond (all (own_fields run)) None (Some Malformed))

-- how many places are held, or the refusal
abbrev pub judged : Run → Result ℕ Refusal
judged run = checked_by (run_fault run) (length (held_of (lent run.table)))

abbrev pub unless : {A : Type 0} → Option Refusal → Next A → Next A
unless (Some refusal) next = refuses refusal
unless None next = next

unfoldable pub call_next : Run → List ℕ → Next Run
call_next run b = unless (run_fault run) (next_of run b)

-- the call on a block that brings `next` prints nothing, and answers as a writer of no bytes; a refusal hands back the run that was given
abbrev pub TakesBlock : Run → Next Run → Step → Type 0
TakesBlock run next r = Stepped run next [] [] r.answer r.run []
