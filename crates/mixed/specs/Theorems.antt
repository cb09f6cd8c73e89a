-- What holds between the calls and the whole run.
use Rattle.std.specs.Prelude.{◌≡◌, Bool, true, false, ◌||◌, List, [], ◌∷◌, ◌++◌, map, ℕ, zero, suc, ◌*◌, ◌^◌, ◌≤◌, ◌<◌, eqb, length, Option, Some, None, Result, Ok, Err}
use Rattle.answers.specs.Refusals.{number_of}
use Rattle.answers.specs.declared.Refusal.{Refusal}
use Rattle.format.specs.Blocks.{block_bytes}
use Rattle.format.specs.declared.Form.{Form}
use Rattle.trace.specs.Reading.{block_of}
use Rattle.trace.specs.declared.Block.TheVariants.{Label, Arrivals}
use Rattle.table.specs.Lines.{head_bytes, refused_line}
use Rattle.walk.specs.Blocks.{Blocks, blocks_of}
use Rattle.walk.specs.Programs.{Printed, both, to_output, Ending, walked, printed_by}
use Rattle.walk.specs.Pieces.{Octets}
use Rattle.walk.specs.Steps.{Next, goes, refuses}
use Rattle.walk.specs.Machines.{Session}
use Rattle.walk.specs.Singles.{Singles, singly}
use Rattle.mixed.specs.declared.Line.{Line}
use Rattle.mixed.specs.declared.Run.{Run}
use Rattle.mixed.specs.Blocks.{most_lines}
use Rattle.mixed.specs.Runs.{start_of, call_next, Carried, carried_by}
use Rattle.mixed.specs.Rows.{row_fault, row_of}
use Rattle.mixed.specs.Tables.{ended, ecnstreams, printed}

-- ---- the calls for one block each, on the run and the words that the call before handed back; then those for the rows

-- the run, the lent words, and block 0
pub record Lent : Type 0 where
  pub run : Run
  pub words : List ℕ
  pub zeroth : List ℕ

abbrev pub started_on : List ℕ → List ℕ → Result Run Refusal → Next Lent
started_on ws zeroth (Ok run) = goes (record { run = run; words = ws; zeroth = zeroth })
started_on ws zeroth (Err refusal) = refuses refusal

abbrev pub next_on : List ℕ → Next Carried → Next Lent
next_on zeroth (goes k) = goes (record { run = k.run; words = k.words; zeroth = zeroth })
next_on zeroth (refuses refusal) = refuses refusal

-- what the call for line i writes, if it has room
abbrev pub row_in : Option Refusal → List ℕ → List ℕ
row_in None row = row
row_in (Some refusal) row = []

abbrev pub row_at : Lent → ℕ → List ℕ
row_at h i = row_in (row_fault h.run i h.words h.zeroth) (row_of h.run i h.words h.zeroth)

-- those for n lines from i on
unfoldable pub rows_from : Lent → ℕ → ℕ → List ℕ
rows_from h i zero = []
rows_from h i (suc n) = row_at h i ++ rows_from h (suc i) n

-- the end: all rows, or the line of the refused block
abbrev pub line_of : Ending → Printed
line_of e = to_output (refused_line (number_of e.refusal) e.block)

abbrev pub end_on : Lent → Option Ending → Printed
end_on h None = to_output (rows_from h 0 h.run.held)
end_on h (Some e) = line_of e

abbrev pub block_calls : List ℕ → Singles Lent
block_calls ws = record {
  start = λ b. started_on ws b (start_of b);
  head = λ b. head_bytes;
  next = λ h b. next_on h.zeroth (carried_by h.run h.words (call_next h.run h.words b));
  bytes = λ h b. [];
  end = end_on;
  over = λ refusal. line_of (record { refusal = refusal; block = 0 });
}

-- the head line and what the calls write, over a trace's blocks and then for the rows, are what ecnstreams prints on both outputs, where enough words are lent
abbrev pub CallsPrint : Type 0
CallsPrint =
    (trace ws : List ℕ) (q : Printed) → Octets trace → length trace < block_bytes * 2 ^ 64 → 13 * most_lines ≤ length ws → Session (singly (block_calls ws)) trace q
    → q ≡ printed trace

-- ---- the order of the lines

-- each below the next
abbrev pub Rising : List ℕ → Type 0
Rising [] = Unit {0}
Rising (a ∷ []) = Unit {0}
Rising (a ∷ b ∷ ss) = (a < b) × Rising (b ∷ ss)

-- lines in rising order of SSRC, so that none has two, and at most 16
pub record InOrder (ls : List Line) : Type 0 where
  pub rising : Rising (map (λ l. l.ssrc) ls)
  pub few : length ls ≤ most_lines

-- so they are behind any blocks, with or without an end by a refusal
abbrev pub LinesRise : Type 0
LinesRise = (bs : Blocks) → InOrder (walked ecnstreams bs).state.lines

-- what is printed for any blocks is the head line and what the end prints: the row of each of these lines, in this order, or the refused line alone
abbrev pub HeadThenRows : Type 0
HeadThenRows = (bs : Blocks) → printed_by ecnstreams bs ≡ both (to_output head_bytes) (ended (walked ecnstreams bs).state (walked ecnstreams bs).ended)

-- ---- a trace that is taken whole

-- whether an SSRC is in a list
abbrev pub among : ℕ → List ℕ → Bool
among ssrc [] = false
among ssrc (s ∷ ss) = eqb s ssrc || among ssrc ss

-- each block holds arrivals of this form, of a source in the list
abbrev pub OfSources : Form → List ℕ → List (List ℕ) → Type 0
OfSources form ssrcs [] = Unit {0}
OfSources form ssrcs (b ∷ bs) =
    (n : ℕ) × (ssrc : ℕ) × (block_of b ≡ Ok (Arrivals form n ssrc)) × (among ssrc ssrcs ≡ true) × OfSources form ssrcs bs

-- behind a label of that form, and with at most 16 in the list, no block is refused
abbrev pub SixteenSuffice : Type 0
SixteenSuffice =
    (trace ssrcs : List ℕ) (form : Form) (n ssrc : ℕ) → block_of (blocks_of trace).zeroth ≡ Ok (Label form n ssrc)
    → OfSources form ssrcs (blocks_of trace).others → length ssrcs ≤ most_lines → (walked ecnstreams (blocks_of trace)).ended ≡ None
