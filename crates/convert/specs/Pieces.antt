-- The three calls of a run of ecntable over pieces of a trace: what each gives, by the program of specs/Tables.
use Rattle.answers.specs.declared.Unwritten.{Unwritten}
use Rattle.std.specs.Prelude.{◌≡◌, true, cond, List, ℕ, ◌*◌, ◌^◌, ◌≤◌, ◌<◌, length, Option, Some, None, Result, Ok, Err}
use Rattle.answers.specs.Writers.{Wrote}
use Rattle.answers.specs.declared.Refusal.{Refusal}
use Rattle.answers.specs.declared.Refusal.TheVariants.{Malformed}
use Rattle.format.specs.Blocks.{block_bytes}
use Rattle.table.specs.Lines.{head_bytes}
use Rattle.table.specs.Theorems.{row_most}
use Rattle.walk.specs.Programs.{Printed, nothing, to_output, Turn}
use Rattle.walk.specs.Pieces.{Octets, wholes, whole_in}
use Rattle.walk.specs.Fitting.{Took, fitting, Reached}
use Rattle.walk.specs.Endings.{is_going, number_after}
use Rattle.walk.specs.Machines.{Standing, next_behind, fitting_by, ending_by, Gave, Machine, Session}
use Rattle.walk.specs.declared.Closed.{Closed}
use Rattle.convert.specs.declared.Run.{Run}
use Rattle.convert.specs.declared.pieces.Progress.{Progress}
use Rattle.convert.specs.declared.pieces.Begun.{Begun}
use Rattle.convert.specs.declared.pieces.Taken.{Taken}
use Rattle.convert.specs.Runs.{sound_run}
use Rattle.convert.specs.Tables.{Kept, no_run, closing, ecntable, printed}

-- ---- block 0

abbrev pub begin_by : Turn Kept → Progress
begin_by t = record { run = t.state.run; block = next_behind t.refusal; ended = t.refusal }

unfoldable pub begin_of : List ℕ → Progress
begin_of zeroth = begin_by (ecntable.begin zeroth)

abbrev pub not_begun : Progress
not_begun = record { run = no_run; block = 0; ended = None }

-- where the head line has no room, 12, nothing has begun
abbrev pub begun_in : List ℕ → Result ℕ Unwritten → Progress
begun_in zeroth (Ok n) = begin_of zeroth
begun_in zeroth (Err why) = not_begun

pub record Begins (zeroth old : List ℕ) (r : Begun) (out : List ℕ) : Type 0 where
  pub wrote : Wrote None head_bytes old r.answer out
  pub progress : r.progress ≡ begun_in zeroth r.answer

-- ---- the whole blocks of a piece

-- how the program's run stands
abbrev pub standing : Progress → List ℕ → Standing Kept
standing p zeroth = record { state = record { run = p.run; zeroth = zeroth }; block = p.block; refusal = p.ended }

-- what is taken of the piece: nothing after a refusal
unfoldable pub took_of : Progress → List ℕ → List ℕ → ℕ → Took Kept
took_of p zeroth piece room = fitting_by ecntable (standing p zeroth) p.ended piece room

abbrev pub after_taking : Progress → Took Kept → Progress
after_taking p w = record { run = w.state.run; block = number_after p.block w.taken; ended = w.refusal }

-- a run that goes on must be sound, else 9
abbrev pub piece_fault : Progress → List ℕ → Option Refusal → Option Refusal
piece_fault p zeroth None = cond (sound_run p.run zeroth) None (Some Malformed)
piece_fault p zeroth (Some refusal) = None

abbrev pub TakenBy : Progress → Took Kept → Option Refusal → Taken → Type 0
TakenBy p w None r = (r.bytes ≡ block_bytes * w.taken) × (r.progress ≡ after_taking p w)
TakenBy p w (Some refusal) r = (r.bytes ≡ 0) × (r.progress ≡ p)

pub record Takes (p : Progress) (zeroth piece old : List ℕ) (r : Taken) (out : List ℕ) : Type 0 where
  pub wrote : Wrote (piece_fault p zeroth p.ended) (took_of p zeroth piece (length old)).printed.out old r.answer out
  pub taken : TakenBy p (took_of p zeroth piece (length old)) (piece_fault p zeroth p.ended) r

-- the loop over the blocks, whatever number the first has
abbrev pub Fitted : Run → List ℕ → List ℕ → List ℕ → Run → ℕ → ℕ → Option Refusal → List ℕ → Type 0
Fitted start zeroth piece old run bytes used ended out =
    (first : ℕ) → Reached (fitting ecntable first (whole_in piece) (record { run = start; zeroth = zeroth }) (length old)) (record { run = run; zeroth = zeroth }) ended bytes old out used

-- ---- the end: what is left is a part of a block, which is refused with 1, or nothing

unfoldable pub end_of : Progress → List ℕ → Printed
end_of p rest = closing (ending_by p.block p.ended rest)

pub record Ends (p : Progress) (rest oldOut oldErr : List ℕ) (r : Closed) (out err : List ℕ) : Type 0 where
  pub printed : Wrote None (end_of p rest).out oldOut r.out out
  pub told : Wrote None (end_of p rest).err oldErr r.err err

-- ---- the calls over a trace, and what they print

pub record Held : Type 0 where
  pub progress : Progress
  pub zeroth : List ℕ

abbrev pub gave_by : Held → Took Kept → Option Refusal → Gave Held
gave_by h w None = record { state = record { progress = after_taking h.progress w; zeroth = h.zeroth }; taken = block_bytes * w.taken; printed = to_output w.printed.out }
gave_by h w (Some refusal) = record { state = h; taken = 0; printed = nothing }

abbrev pub calls : Machine Held
calls = record {
  begin = λ b. record { state = record { progress = begin_of b; zeroth = b }; taken = 0; printed = to_output head_bytes };
  blocks = λ h piece room. gave_by h (took_of h.progress h.zeroth piece room) (piece_fault h.progress h.zeroth h.progress.ended);
  end = λ h rest. end_of h.progress rest;
  going = λ h. is_going h.progress.ended;
}

-- however a trace is cut into pieces, what the calls give, joined, is what ecntable prints on both outputs
abbrev pub TracePrints : Type 0
TracePrints = (trace : List ℕ) (q : Printed) → Octets trace → length trace < block_bytes * 2 ^ 64 → Session calls trace q → q ≡ printed trace

-- room for the longest row for each whole block of a piece is enough: all are taken, unless one is refused
abbrev pub RowsHaveRoom : Type 0
RowsHaveRoom =
    (p : Progress) (zeroth piece : List ℕ) (room : ℕ) → p.ended ≡ None → p.run.ssrc < 2 ^ 32 → sound_run p.run zeroth ≡ true → Octets piece
    → wholes piece * row_most ≤ room → (took_of p zeroth piece room).refusal ≡ None → (took_of p zeroth piece room).taken ≡ wholes piece
