-- What holds between the calls of a run for one block each and the whole run, and of the lines that it prints rows of (document 02, L1).
use Rattle.answers.specs.declared.Unwritten.{Unwritten}
use Rattle.std.specs.Prelude.{◌≡◌, List, [], ◌∷◌, ◌++◌, map, ℕ, zero, suc, ◌*◌, ◌^◌, ◌≤◌, ◌<◌, length, Option, Some, None, Result, Ok, Err}
use Rattle.answers.specs.Refusals.{number_of}
use Rattle.answers.specs.declared.Refusal.{Refusal}
use Rattle.format.specs.Blocks.{block_bytes}
use Rattle.table.specs.Lines.{head_bytes, refused_line}
use Rattle.walk.specs.Blocks.{Blocks, blocks_of}
use Rattle.walk.specs.Programs.{Printed, both, to_output, Ending, walked, printed_by}
use Rattle.walk.specs.Pieces.{Octets}
use Rattle.walk.specs.Steps.{Next, goes, refuses}
use Rattle.walk.specs.Machines.{Session}
use Rattle.walk.specs.Singles.{Singles, singly}
use Rattle.sources.specs.declared.runs.Run.{Run}
use Rattle.sources.specs.Places.{held_of}
use Rattle.sources.specs.Rules.{most_places}
use Rattle.sources.specs.Tables.{lent}
use Rattle.sources.specs.Runs.{start_of, call_next}
use Rattle.sources.specs.Rows.{Line, lines_of, row_fault, row_of}
use Rattle.sources.specs.Streams.{Kept, closing, ecnstreams, printed}

-- ---- the calls for one block each, on the run that the call before handed back; then those for the rows

abbrev pub started_on : List ℕ → Run → Result ℕ Unwritten → Next Kept
started_on zeroth run (Ok n) = goes (record { run = run; zeroth = zeroth })
started_on zeroth run (Err (Unwritten.Room n)) = goes (record { run = run; zeroth = zeroth })
started_on zeroth run (Err (Unwritten.Refused refusal)) = refuses refusal

abbrev pub next_on : List ℕ → Next Run → Next Kept
next_on zeroth (goes run) = goes (record { run = run; zeroth = zeroth })
next_on zeroth (refuses refusal) = refuses refusal

-- what the call for line i writes, if it has room
abbrev pub row_by : Option Refusal → List ℕ → List ℕ
row_by None row = row
row_by (Some refusal) row = []

abbrev pub row_at : Kept → ℕ → List ℕ
row_at k i = row_by (row_fault k.run i k.zeroth) (row_of k.run i k.zeroth)

-- those for n lines from i on
unfoldable pub rows_from : Kept → ℕ → ℕ → List ℕ
rows_from k i zero = []
rows_from k i (suc n) = row_at k i ++ rows_from k (suc i) n

-- the end: the rows of all held places, or the line of the refused block
abbrev pub line_of : Ending → Printed
line_of e = to_output (refused_line (number_of e.refusal) e.block)

abbrev pub end_on : Kept → Option Ending → Printed
end_on k None = to_output (rows_from k 0 (length (held_of (lent k.run.table))))
end_on k (Some e) = line_of e

abbrev pub block_calls : Singles Kept
block_calls = record {
  start = λ b. started_on b (start_of b).run (start_of b).answer;
  head = λ b. head_bytes;
  next = λ k b. next_on k.zeroth (call_next k.run b);
  bytes = λ k b. [];
  end = end_on;
  over = λ refusal. line_of (record { refusal = refusal; block = 0 });
}

-- the head line and what the calls write, over a trace's blocks and then for the rows, are what ecnstreams prints on both outputs
abbrev pub CallsPrint : Type 0
CallsPrint = (trace : List ℕ) (q : Printed) → Octets trace → length trace < block_bytes * 2 ^ 64 → Session (singly block_calls) trace q → q ≡ printed trace

-- ---- the order of the lines

-- each below the next
abbrev pub Rising : List ℕ → Type 0
Rising [] = Unit {0}
Rising (a ∷ []) = Unit {0}
Rising (a ∷ b ∷ ss) = (a < b) × Rising (b ∷ ss)

-- lines in rising order of SSRC, so that none has two, and at most 16
pub record InOrder (ls : List Line) : Type 0 where
  pub rising : Rising (map (λ l. l.ssrc) ls)
  pub few : length ls ≤ most_places

-- so they are behind any trace, with or without an end by a refusal
abbrev pub LinesRise : Type 0
LinesRise = (trace : List ℕ) → Octets trace → InOrder (lines_of (walked ecnstreams (blocks_of trace)).state.run)

-- what is printed for any blocks is the head line and what the end prints: the row of each of these lines, in this order, or the refused line alone
abbrev pub HeadThenRows : Type 0
HeadThenRows = (bs : Blocks) → printed_by ecnstreams bs ≡ both (to_output head_bytes) (closing (walked ecnstreams bs).state (walked ecnstreams bs).ended)
