-- Request L10: what the converter ecnforms prints for a trace: the other form's blocks on standard output, and on standard error `refused N block I` for the first refused block.
use Rattle.std.specs.Prelude.{ℕ, List, [], ◌++◌, take, Option, Some, None, Result, Ok, Err}
use Rattle.answers.specs.Refusals.{number_of}
use Rattle.answers.specs.declared.Refusal.{Refusal}
use Rattle.format.specs.Forms.{shape_of, other_form}
use Rattle.format.specs.declared.Form.{Form}
use Rattle.format.specs.declared.Form.TheVariants.{One}
use Rattle.trace.specs.Layout.{label_block, body_of}
use Rattle.trace.specs.Places.{zeroth_of}
use Rattle.trace.specs.declared.Zeroth.{Zeroth}
use Rattle.trace.specs.declared.Record.{Record}
use Rattle.table.specs.Lines.{refused_line}
use Rattle.walk.specs.Blocks.{blocks_of}
use Rattle.walk.specs.Programs.{Printed, nothing, to_output, Turn, Ending, Program, printed_by}
use Rattle.walk.specs.Steps.{Next, goes, refuses}
use Rattle.forms.specs.Packing.{full_blocks, full, left, last_block}
use Rattle.forms.specs.declared.Conversion.{Conversion}
use Rattle.forms.specs.Conversions.{held_in, next_of}

-- the label's form and SSRC, and the records of a block that is not full yet
pub record Kept : Type 0 where
  pub form : Form
  pub ssrc : ℕ
  pub held : List Record

-- as the calls carry it: a conversion and its part
abbrev pub kept_of : Conversion → List ℕ → Kept
kept_of c part = record { form = c.form; ssrc = c.ssrc; held = held_in c part }

-- the label in the other form; a refused label gives no output
abbrev pub no_trace : Kept
no_trace = record { form = One; ssrc = 0; held = [] }

abbrev pub refused_label : Refusal → Turn Kept
refused_label refusal = record { state = no_trace; printed = nothing; refusal = Some refusal }

abbrev pub begun : List ℕ → Result Zeroth Refusal → Turn Kept
begun b (Ok label) = record {
  state = record { form = label.form; ssrc = label.ssrc; held = [] };
  printed = to_output (label_block (shape_of (other_form label.form)) (take label.length (body_of b)) label.ssrc);
  refusal = None;
}
begun b (Err refusal) = refused_label refusal

-- the blocks that are full with a block's records
abbrev pub taken : Kept → Next (List Record) → Turn Kept
taken k (goes records) = record {
  state = record { form = k.form; ssrc = k.ssrc; held = left (shape_of (other_form k.form)) (k.held ++ records) };
  printed = to_output (full_blocks (shape_of (other_form k.form)) k.ssrc (full (shape_of (other_form k.form)) (k.held ++ records)) (k.held ++ records));
  refusal = None;
}
taken k (refuses refusal) = record { state = k; printed = nothing; refusal = Some refusal }

-- the records that are left, in a last block, and the line of a refused block
abbrev pub told : Option Ending → List ℕ
told None = []
told (Some e) = refused_line (number_of e.refusal) e.block

abbrev pub ecnforms : Program Kept
ecnforms = record {
  begin = λ b. begun b (zeroth_of b);
  step = λ i k b. taken k (next_of k.form k.ssrc b);
  close = λ k e. record { out = last_block (shape_of (other_form k.form)) k.ssrc k.held; err = told e };
}

unfoldable pub converted : List ℕ → Printed
converted trace = printed_by ecnforms (blocks_of trace)
