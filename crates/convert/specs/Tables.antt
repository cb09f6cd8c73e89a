-- The whole run (document 01, "Table"): what ecntable prints for a trace.
use Rattle.answers.specs.declared.Refusal.{Refusal}
use Rattle.std.specs.Prelude.{ℕ, List, Option, Some, None, Result, Ok, Err}
use Rattle.answers.specs.Refusals.{number_of}
use Rattle.format.specs.declared.Form.TheVariants.{One}
use Rattle.source.specs.Totals.{fresh_totals}
use Rattle.table.specs.Lines.{head_bytes, refused_line}
use Rattle.walk.specs.Blocks.{blocks_of}
use Rattle.walk.specs.Programs.{Printed, nothing, to_output, Turn, Ending, Program, printed_by}
use Rattle.convert.specs.declared.Run.{Run}
use Rattle.walk.specs.Steps.{Next, goes, refuses}
use Rattle.convert.specs.Runs.{row_of, start_of, next_of}

-- the run and block 0
pub record Kept : Type 0 where
  pub run : Run
  pub zeroth : List ℕ

-- the run that a refused label leaves
abbrev pub no_run : Run
no_run = record { form = One; length = 0; ssrc = 0; totals = fresh_totals }

-- the head line always; a label block starts a run
abbrev pub begun : List ℕ → Result Run Refusal → Turn Kept
begun zeroth (Ok run) = record { state = record { run = run; zeroth = zeroth }; printed = to_output head_bytes; refusal = None }
begun zeroth (Err refusal) = record {
  state = record { run = no_run; zeroth = zeroth };
  printed = to_output head_bytes;
  refusal = Some refusal;
}

-- one row after each arrivals block
abbrev pub taken : Kept → Next Run → Turn Kept
taken k (goes next) = record { state = record { run = next; zeroth = k.zeroth }; printed = to_output (row_of next k.zeroth); refusal = None }
taken k (refuses refusal) = record { state = k; printed = nothing; refusal = Some refusal }

-- the first refused block prints `refused N block I` and ends the run
abbrev pub closing : Option Ending → Printed
closing None = nothing
closing (Some e) = to_output (refused_line (number_of e.refusal) e.block)

abbrev pub ecntable : Program Kept
ecntable = record {
  begin = λ b. begun b (start_of b);
  step = λ i k b. taken k (next_of k.run b);
  close = λ k e. closing e;
}

unfoldable pub printed : List ℕ → Printed
printed trace = printed_by ecntable (blocks_of trace)
