-- The whole run (document 02, L1): what ecnstreams prints for a trace.
use Rattle.answers.specs.declared.Unwritten.{Unwritten}
use Rattle.std.specs.Prelude.{ℕ, List, Option, Some, None, Result, Ok, Err}
use Rattle.answers.specs.Refusals.{number_of}
use Rattle.answers.specs.declared.Refusal.{Refusal}
use Rattle.table.specs.Lines.{head_bytes, refused_line}
use Rattle.walk.specs.Blocks.{blocks_of}
use Rattle.walk.specs.Programs.{Printed, nothing, to_output, Turn, Ending, Program, printed_by}
use Rattle.walk.specs.Steps.{Next, goes, refuses}
use Rattle.sources.specs.declared.runs.Run.{Run}
use Rattle.sources.specs.declared.runs.Step.{Step}
use Rattle.sources.specs.Runs.{start_of, next_of}
use Rattle.sources.specs.Rows.{lines_of, label_of, rows_of}

-- the run and block 0
pub record Kept : Type 0 where
  pub run : Run
  pub zeroth : List ℕ

abbrev pub refusal_of : Result ℕ Unwritten → Option Refusal
refusal_of (Ok n) = None
refusal_of (Err (Unwritten.Room n)) = None
refusal_of (Err (Unwritten.Refused refusal)) = Some refusal

-- block 0: the head line always; a label starts a run
abbrev pub begun : List ℕ → Step → Turn Kept
begun zeroth r = record { state = record { run = r.run; zeroth = zeroth }; printed = to_output head_bytes; refusal = refusal_of r.answer }

-- nothing is printed after an arrivals block
abbrev pub taken : Kept → Next Run → Turn Kept
taken k (goes next) = record { state = record { run = next; zeroth = k.zeroth }; printed = nothing; refusal = None }
taken k (refuses refusal) = record { state = k; printed = nothing; refusal = Some refusal }

-- after the last block, one row for each source in rising order of SSRC; the first refused block prints `refused N block I` and no row
abbrev pub closing : Kept → Option Ending → Printed
closing k None = to_output (rows_of (label_of k.run k.zeroth) (lines_of k.run))
closing k (Some e) = to_output (refused_line (number_of e.refusal) e.block)

abbrev pub ecnstreams : Program Kept
ecnstreams = record {
  begin = λ b. begun b (start_of b);
  step = λ i k b. taken k (next_of k.run b);
  close = λ k e. closing k e;
}

unfoldable pub printed : List ℕ → Printed
printed trace = printed_by ecnstreams (blocks_of trace)
