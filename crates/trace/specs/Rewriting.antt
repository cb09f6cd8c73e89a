-- Block 0 of a trace, written again: in a given form (request L10), or in its own form with its label spaced (L14). The label is one that the trace has
-- already, so none is refused with 19. Refusals: 1, 13, 14, then 12.
use Rattle.answers.specs.declared.Unwritten.{Unwritten}
use Rattle.std.specs.Prelude.{◌≡◌, ℕ, List, [], take, Option, Some, None, Result, Ok, Err}
use Rattle.answers.specs.Writers.{written, stored}
use Rattle.answers.specs.declared.Refusal.{Refusal}
use Rattle.format.specs.Forms.{shape_of}
use Rattle.format.specs.declared.Form.{Form}
use Rattle.trace.specs.Layout.{label_block, body_of}
use Rattle.trace.specs.Places.{zeroth_of}
use Rattle.trace.specs.Retired.{retired_in, spaced_label}
use Rattle.trace.specs.declared.Zeroth.{Zeroth}

-- 1, 13 and 14, by what block 0 reads as
abbrev pub zeroth_fault : Result Zeroth Refusal → Option Refusal
zeroth_fault (Ok label) = None
zeroth_fault (Err refusal) = Some refusal

-- ---- in a given form: the same label and SSRC

abbrev pub block_as : Form → List ℕ → Result Zeroth Refusal → List ℕ
block_as form b (Ok label) = label_block (shape_of form) (take label.length (body_of b)) label.ssrc
block_as form b (Err refusal) = []

-- ---- in its own form: the label spaced, the same SSRC

abbrev pub block_spaced : List ℕ → Result Zeroth Refusal → List ℕ
block_spaced b (Ok label) = label_block (shape_of label.form) (spaced_label (take label.length (body_of b))) label.ssrc
block_spaced b (Err refusal) = []

-- the number of bytes replaced
abbrev pub replaced_in : List ℕ → Result Zeroth Refusal → ℕ
replaced_in b (Ok label) = retired_in (take label.length (body_of b))
replaced_in b (Err refusal) = 0

-- the answer, by what a writer of the block answers
abbrev pub spaced_by : ℕ → Result ℕ Unwritten → Result ℕ Unwritten
spaced_by number (Ok size) = Ok number
spaced_by number (Err (Unwritten.Room size)) = Err (Unwritten.Room size)
spaced_by number (Err (Unwritten.Refused refusal)) = Err (Unwritten.Refused refusal)

abbrev pub spaced_of : List ℕ → List ℕ → Result ℕ Unwritten
spaced_of b old = spaced_by (replaced_in b (zeroth_of b)) (written (zeroth_fault (zeroth_of b)) (block_spaced b (zeroth_of b)) old)

-- `r` and `out` are what the call gives for block 0 and the output `old`
pub record Spaces (b old : List ℕ) (r : Result ℕ Unwritten) (out : List ℕ) : Type 0 where
  pub answers : r ≡ spaced_of b old
  pub stores : out ≡ stored (zeroth_fault (zeroth_of b)) (block_spaced b (zeroth_of b)) old
