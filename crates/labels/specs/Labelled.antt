-- Request L14: what ecnlabel prints for a trace: a copy of it on standard output, with one space in the place of each retired byte of the label; and on standard
-- error the line of the first refused block, or, if none was refused, the number of bytes replaced.
use Rattle.std.specs.Prelude.{List, [], ℕ, Option, Some, None, Result, Ok, Err}
use Rattle.answers.specs.Refusals.{number_of}
use Rattle.answers.specs.declared.Refusal.{Refusal}
use Rattle.format.specs.declared.Form.{Form}
use Rattle.format.specs.declared.Form.TheVariants.{One}
use Rattle.table.specs.Lines.{refused_line, number_line}
use Rattle.trace.specs.Places.{zeroth_of}
use Rattle.trace.specs.Rewriting.{block_spaced, replaced_in}
use Rattle.trace.specs.declared.Zeroth.{Zeroth}
use Rattle.walk.specs.Blocks.{blocks_of}
use Rattle.walk.specs.Programs.{Printed, nothing, to_output, Turn, Ending, Program, printed_by}
use Rattle.copies.specs.Fronts.{fault_of}

-- the label's form and SSRC, and how many bytes of it were replaced
pub record Kept : Type 0 where
  pub form : Form
  pub ssrc : ℕ
  pub replaced : ℕ

-- what a refused label leaves
abbrev pub no_trace : Kept
no_trace = record { form = One; ssrc = 0; replaced = 0 }

abbrev pub to_errors : List ℕ → Printed
to_errors bytes = record { out = []; err = bytes }

-- block 0: a label is written with spaces; a refused label gives no output
abbrev pub begun_by : List ℕ → Result Zeroth Refusal → Turn Kept
begun_by b (Ok label) = record {
  state = record { form = label.form; ssrc = label.ssrc; replaced = replaced_in b (Ok (record { form = label.form; length = label.length; ssrc = label.ssrc })) };
  printed = to_output (block_spaced b (Ok (record { form = label.form; length = label.length; ssrc = label.ssrc })));
  refusal = None;
}
begun_by b (Err refusal) = record { state = no_trace; printed = nothing; refusal = Some refusal }

-- a later block is copied, or refused, by ecntable's rule
abbrev pub turn_by : Kept → List ℕ → Option Refusal → Turn Kept
turn_by k b None = record { state = k; printed = to_output b; refusal = None }
turn_by k b (Some refusal) = record { state = k; printed = nothing; refusal = Some refusal }

-- the number replaced, or the line of the refused block
abbrev pub closing : Kept → Option Ending → Printed
closing k None = to_errors (number_line k.replaced)
closing k (Some e) = to_errors (refused_line (number_of e.refusal) e.block)

abbrev pub ecnlabel : Program Kept
ecnlabel = record {
  begin = λ b. begun_by b (zeroth_of b);
  step = λ i k b. turn_by k b (fault_of k.form k.ssrc b);
  close = closing;
}

unfoldable pub labelled : List ℕ → Printed
labelled trace = printed_by ecnlabel (blocks_of trace)
