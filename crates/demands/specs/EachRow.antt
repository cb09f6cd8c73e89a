-- Request L1: each row that ecnstreams prints is the last row that ecntable prints for that source alone.
use Rattle.answers.specs.declared.Refusal.{Refusal}
use Rattle.std.specs.Prelude.{◌≡◌, cond, List, [], ◌∷◌, ◌++◌, ℕ, eqb, None, Result, Ok, Err}
use Rattle.format.specs.Forms.{shape_of}
use Rattle.trace.specs.Layout.{label_block}
use Rattle.trace.specs.Reading.{block_of}
use Rattle.trace.specs.Theorems.{Below}
use Rattle.trace.specs.declared.Block.{Block}
use Rattle.trace.specs.declared.Block.TheVariants.{Label, Arrivals}
use Rattle.table.specs.Lines.{row_bytes}
use Rattle.walk.specs.Blocks.{blocks_of, joined}
use Rattle.walk.specs.Programs.{walked}
use Rattle.mixed.specs.declared.Line.{Line}
use Rattle.mixed.specs.Tables.{Kept, ecnstreams}
use Rattle.demands.specs.PrintedTable.{EndsIn}

-- the blocks that name a source
abbrev pub named_by : ℕ → List ℕ → Result Block Refusal → List (List ℕ) → List (List ℕ)
named_by ssrc b (Ok (Arrivals form n own)) bs = cond (eqb own ssrc) (b ∷ bs) bs
named_by ssrc b (Ok (Label form n own)) bs = bs
named_by ssrc b (Err refusal) bs = bs

unfoldable pub naming : ℕ → List (List ℕ) → List (List ℕ)
naming ssrc [] = []
naming ssrc (b ∷ bs) = named_by ssrc b (block_of b) (naming ssrc bs)

-- what ecnstreams keeps when a trace has ended: form, label and lines
abbrev pub kept_behind : List ℕ → Kept
kept_behind trace = (walked ecnstreams (blocks_of trace)).state

-- a source's own trace: a label block of that form and label with its SSRC, and its blocks
abbrev pub own_trace : List ℕ → ℕ → List ℕ
own_trace trace ssrc = label_block (shape_of (kept_behind trace).form) (kept_behind trace).label ssrc ++ joined (naming ssrc (blocks_of trace).others)

-- of each line
abbrev pub EachLine : (Line → Type 0) → List Line → Type 0
EachLine P [] = Unit {0}
EachLine P (l ∷ ls) = P l × EachLine P ls

-- where no block is refused: what ecntable prints for a source's own trace ends in its row, jumped and restarts among it. (`HeadThenRows` of mixed: these rows are
-- what ecnstreams prints behind the head line.)
abbrev pub EachRow : Type 0
EachRow =
    (trace : List ℕ) → Below 256 trace → (walked ecnstreams (blocks_of trace)).ended ≡ None
    → EachLine (λ l. EndsIn (own_trace trace l.ssrc) (kept_behind trace).label l.ssrc (row_bytes (kept_behind trace).label l.ssrc l.totals)) (kept_behind trace).lines
