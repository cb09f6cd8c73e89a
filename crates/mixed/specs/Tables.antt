-- The whole run (document 02, L1): what ecnstreams prints for a trace.
use Rattle.answers.specs.declared.Refusal.{Refusal}
use Rattle.std.specs.Prelude.{ℕ, List, [], map, take, drop, Option, Some, None, Result, Ok, Err}
use Rattle.answers.specs.Refusals.{number_of}
use Rattle.answers.specs.declared.Refusal.TheVariants.{Contents}
use Rattle.format.specs.Blocks.{body_at}
use Rattle.format.specs.declared.Form.{Form}
use Rattle.format.specs.declared.Form.TheVariants.{One}
use Rattle.trace.specs.Reading.{block_of}
use Rattle.trace.specs.declared.Block.{Block}
use Rattle.trace.specs.declared.Block.TheVariants as read
use Rattle.table.specs.Lines.{head_bytes, row_bytes, refused_line}
use Rattle.walk.specs.Blocks.{blocks_of, joined}
use Rattle.walk.specs.Programs.{Printed, nothing, to_output, Turn, Ending, Program, printed_by}
use Rattle.walk.specs.Steps.{Next, goes, refuses}
use Rattle.mixed.specs.declared.Line.{Line}
use Rattle.mixed.specs.Lines.{by_value}
use Rattle.mixed.specs.Blocks.{next_of}

-- the form and the label of block 0, and the lines so far
pub record Kept : Type 0 where
  pub form : Form
  pub label : List ℕ
  pub lines : List Line

-- block 0: the head line always; a label starts a run, 14 for arrivals
abbrev pub begun_by : List ℕ → Result Block Refusal → Turn Kept
begun_by zeroth (Ok (read.Label form n ssrc)) = record {
  state = record { form = form; label = take n (drop body_at zeroth); lines = [] };
  printed = to_output head_bytes;
  refusal = None;
}
begun_by zeroth (Ok (read.Arrivals form n ssrc)) = record { state = record { form = One; label = []; lines = [] }; printed = to_output head_bytes; refusal = Some Contents }
begun_by zeroth (Err refusal) = record { state = record { form = One; label = []; lines = [] }; printed = to_output head_bytes; refusal = Some refusal }

-- nothing is printed after an arrivals block
abbrev pub taken : Kept → Next (List Line) → Turn Kept
taken k (goes ls) = record { state = record { form = k.form; label = k.label; lines = ls }; printed = nothing; refusal = None }
taken k (refuses refusal) = record { state = k; printed = nothing; refusal = Some refusal }

-- after the last block, one row for each source in rising order of SSRC; the first refused block prints `refused N block I` and no row
unfoldable pub rows_of : List ℕ → List Line → List ℕ
rows_of label ls = joined (map (λ l. row_bytes label l.ssrc l.totals) ls)

abbrev pub ended : Kept → Option Ending → Printed
ended k None = to_output (rows_of k.label k.lines)
ended k (Some e) = to_output (refused_line (number_of e.refusal) e.block)

abbrev pub ecnstreams : Program Kept
ecnstreams = record {
  begin = λ b. begun_by b (block_of b);
  step = λ i k b. taken k (next_of by_value k.form b k.lines);
  close = λ k e. ended k e;
}

unfoldable pub printed : List ℕ → Printed
printed trace = printed_by ecnstreams (blocks_of trace)
