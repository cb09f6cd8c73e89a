-- Request L11: what ecnsalvage prints for a trace. The label and every sound block are copied in order; each later block that ecntable would refuse is left
-- out, and listed on standard error by its number in the trace.
use Rattle.std.specs.Prelude.{cond, List, [], ℕ, eqb, length, Option, Some, None, Result, Ok, Err}
use Rattle.answers.specs.Refusals.{number_of}
use Rattle.answers.specs.declared.Refusal.{Refusal}
use Rattle.answers.specs.declared.Refusal.TheVariants.{Incomplete}
use Rattle.format.specs.Blocks.{block_bytes}
use Rattle.format.specs.declared.Form.{Form}
use Rattle.format.specs.declared.Form.TheVariants.{One}
use Rattle.table.specs.Lines.{refused_line}
use Rattle.trace.specs.Places.{zeroth_of}
use Rattle.trace.specs.declared.Zeroth.{Zeroth}
use Rattle.walk.specs.Blocks.{blocks_of}
use Rattle.walk.specs.Programs.{Printed, nothing, to_output, Turn, Ending, Program, printed_by}
use Rattle.copies.specs.Fronts.{fault_of}

-- the label's form and SSRC
pub record Kept : Type 0 where
  pub form : Form
  pub ssrc : ℕ

-- what a refused label leaves
abbrev pub no_trace : Kept
no_trace = record { form = One; ssrc = 0 }

abbrev pub to_errors : List ℕ → Printed
to_errors bytes = record { out = []; err = bytes }

-- block 0: a label is copied; any other block ends the run
abbrev pub begun_by : List ℕ → Result Zeroth Refusal → Turn Kept
begun_by b (Ok label) = record { state = record { form = label.form; ssrc = label.ssrc }; printed = to_output b; refusal = None }
begun_by b (Err refusal) = record { state = no_trace; printed = nothing; refusal = Some refusal }

-- a later block that is whole: copied, or left out and listed, and the run goes on
abbrev pub whole_by : ℕ → Kept → List ℕ → Option Refusal → Turn Kept
whole_by i k b None = record { state = k; printed = to_output b; refusal = None }
whole_by i k b (Some refusal) = record { state = k; printed = to_errors (refused_line (number_of refusal) i); refusal = None }

-- a part of a block ends the run with 1
abbrev pub partly : Kept → Turn Kept
partly k = record { state = k; printed = nothing; refusal = Some Incomplete }

unfoldable pub turn_of : ℕ → Kept → List ℕ → Turn Kept
turn_of i k b = cond (eqb (length b) block_bytes) (whole_by i k b (fault_of k.form k.ssrc b)) (partly k)

-- the block that ended the run is listed too
abbrev pub closing : Option Ending → Printed
closing None = nothing
closing (Some e) = to_errors (refused_line (number_of e.refusal) e.block)

abbrev pub ecnsalvage : Program Kept
ecnsalvage = record {
  begin = λ b. begun_by b (zeroth_of b);
  step = λ i k b. turn_of i k b;
  close = λ k e. closing e;
}

unfoldable pub salvaged : List ℕ → Printed
salvaged trace = printed_by ecnsalvage (blocks_of trace)
