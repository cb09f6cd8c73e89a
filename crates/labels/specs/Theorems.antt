-- Request L14: what holds of what ecnlabel prints, for every trace.
use Rattle.std.specs.Prelude.{◌≡◌, List, [], ◌∷◌, ◌++◌, ℕ, ◌+◌, length, take, Some, None, Ok, Err}
use Rattle.answers.specs.Refusals.{number_of}
use Rattle.answers.specs.declared.Refusal.{Refusal}
use Rattle.answers.specs.declared.Refusal.TheVariants.{FormTwo}
use Rattle.format.specs.declared.Form.{Form}
use Rattle.source.specs.declared.Totals.{Totals}
use Rattle.table.specs.Lines.{head_bytes, row_bytes, refused_line, number_line}
use Rattle.trace.specs.Layout.{body_of}
use Rattle.trace.specs.Places.{zeroth_of}
use Rattle.trace.specs.Retired.{retired_in, spaced_label}
use Rattle.trace.specs.Rewriting.{block_spaced}
use Rattle.trace.specs.Writing.{label_fault}
use Rattle.walk.specs.Blocks.{blocks_of, joined}
use Rattle.walk.specs.Programs.{Ending, walked}
use Rattle.walk.specs.Pieces.{Octets}
use Rattle.convert.specs.Tables.{ecntable, printed}
use Rattle.forms.specs.Converted.{ecnforms}
use Rattle.copies.specs.Fronts.{sound_in}
use Rattle.copies.specs.Theorems.{SoundTrace}
use Rattle.labels.specs.Labelled.{to_errors, ecnlabel, labelled}

-- ---- a trace of which no block is refused: a label, and then its own arrivals (copies, `SoundTrace`)

-- the run over it ends with no refusal, and over no other
abbrev pub SoundIsTaken : Type 0
SoundIsTaken = (trace : List ℕ) (form : Form) (n ssrc : ℕ) → SoundTrace trace form n ssrc → (walked ecnlabel (blocks_of trace)).ended ≡ None

abbrev pub TakenIsSound : Type 0
TakenIsSound = (trace : List ℕ) → (walked ecnlabel (blocks_of trace)).ended ≡ None → (form : Form) × (n : ℕ) × (ssrc : ℕ) × SoundTrace trace form n ssrc

-- its label
abbrev pub label_in : ℕ → List ℕ → List ℕ
label_in n trace = take n (body_of (blocks_of trace).zeroth)

-- the output has the label with a space for each 10 and 13 and every other byte as before, in a label block of the same form and SSRC, which the label writer
-- takes; every later block is the same bytes; the number reported is that of the retired bytes
pub record Spaced (trace : List ℕ) (form : Form) (n ssrc : ℕ) : Type 0 where
  pub label : zeroth_of (blocks_of (labelled trace).out).zeroth ≡ Ok (record { form = form; length = n; ssrc = ssrc })
  pub text : label_in n (labelled trace).out ≡ spaced_label (label_in n trace)
  pub taken : label_fault (label_in n (labelled trace).out) ≡ None
  pub others : (blocks_of (labelled trace).out).others ≡ (blocks_of trace).others
  pub number : (labelled trace).err ≡ number_line (retired_in (label_in n trace))

abbrev pub SpacedLabel : Type 0
SpacedLabel = (trace : List ℕ) (form : Form) (n ssrc : ℕ) → Octets trace → SoundTrace trace form n ssrc → Spaced trace form n ssrc

-- ecntable refuses no block of the output, and ecnforms none but with 17
abbrev pub TableTakes : Type 0
TableTakes = (trace : List ℕ) (form : Form) (n ssrc : ℕ) → Octets trace → SoundTrace trace form n ssrc → (walked ecntable (blocks_of (labelled trace).out)).ended ≡ None

-- ecnforms refuses none of its blocks but with 17
abbrev pub FormsTake : Type 0
FormsTake =
    (trace : List ℕ) (form : Form) (n ssrc : ℕ) (e : Ending) → Octets trace → SoundTrace trace form n ssrc
    → (walked ecnforms (blocks_of (labelled trace).out)).ended ≡ Some e → e.refusal ≡ FormTwo

-- if no byte was retired, the output is the trace
abbrev pub NoneRetired : Type 0
NoneRetired =
    (trace : List ℕ) (form : Form) (n ssrc : ℕ) → Octets trace → SoundTrace trace form n ssrc → retired_in (label_in n trace) ≡ 0
    → labelled trace ≡ record { out = trace; err = number_line 0 }

-- a second time changes nothing more, and the number is 0
abbrev pub LabelledTwice : Type 0
LabelledTwice =
    (trace : List ℕ) (form : Form) (n ssrc : ℕ) → Octets trace → SoundTrace trace form n ssrc
    → labelled (labelled trace).out ≡ record { out = (labelled trace).out; err = number_line 0 }

-- ---- ecntable's rows

-- those of a label and an SSRC, from the totals after each block
unfoldable pub rows_of : List ℕ → ℕ → List Totals → List ℕ
rows_of label ssrc [] = []
rows_of label ssrc (t ∷ ts) = row_bytes label ssrc t ++ rows_of label ssrc ts

-- the same totals before and after, so that the rows are as many and the same after the label's field
pub record Rows (trace : List ℕ) (n ssrc : ℕ) : Type 0 where
  pub totals : List Totals
  pub many : length totals ≡ length (blocks_of trace).others
  pub before : (printed trace).out ≡ head_bytes ++ rows_of (label_in n trace) ssrc totals
  pub after : (printed (labelled trace).out).out ≡ head_bytes ++ rows_of (spaced_label (label_in n trace)) ssrc totals

abbrev pub SameRows : Type 0
SameRows = (trace : List ℕ) (form : Form) (n ssrc : ℕ) → Octets trace → SoundTrace trace form n ssrc → Rows trace n ssrc

-- ---- a trace with a refused block

-- a refused label: no output, and its line; an empty trace is one, with 1
abbrev pub RefusedLabel : Type 0
RefusedLabel = (trace : List ℕ) (refusal : Refusal) → zeroth_of (blocks_of trace).zeroth ≡ Err refusal → labelled trace ≡ to_errors (refused_line (number_of refusal) 0)

-- a later block: what the blocks before it give, and its line; no number is reported
abbrev pub RefusedBlock : Type 0
RefusedBlock =
    (trace : List ℕ) (form : Form) (n ssrc : ℕ) (refusal : Refusal) → zeroth_of (blocks_of trace).zeroth ≡ Ok (record { form = form; length = n; ssrc = ssrc })
    → let s = sound_in form ssrc (blocks_of trace).others in
    s.refusal ≡ Some refusal → labelled trace
    ≡ record {
      out = block_spaced (blocks_of trace).zeroth (Ok (record { form = form; length = n; ssrc = ssrc })) ++ joined (take s.many (blocks_of trace).others);
      err = refused_line (number_of refusal) (1 + s.many);
    }
