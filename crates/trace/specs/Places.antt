-- Document 01, "Trace file": what a block is at its place. Block 0 holds the label, the others arrivals of the label's form and SSRC.
use Rattle.answers.specs.declared.Refusal.{Refusal}
use Rattle.std.specs.Prelude.{ℕ, cond, ◌&&◌, List, ◌==◌, Result, Ok, Err}
use Rattle.answers.specs.declared.Refusal.TheVariants.{Contents}
use Rattle.format.specs.Forms.{same_form}
use Rattle.format.specs.declared.Form.{Form}
use Rattle.trace.specs.Reading.{block_of}
use Rattle.trace.specs.declared.Block.{Block}
use Rattle.trace.specs.declared.Block.TheVariants.{Label, Arrivals}
use Rattle.trace.specs.declared.Zeroth.{Zeroth}

-- ---- block 0

-- 14 for arrivals
abbrev pub zeroth_by : Result Block Refusal → Result Zeroth Refusal
zeroth_by (Ok (Label form n ssrc)) = Ok (record { form = form; length = n; ssrc = ssrc })
zeroth_by (Ok (Arrivals form n ssrc)) = Err Contents
zeroth_by (Err refusal) = Err refusal

unfoldable pub zeroth_of : List ℕ → Result Zeroth Refusal
zeroth_of b = zeroth_by (block_of b)

-- ---- a later block, by the label's form and SSRC

-- 14 for another form or SSRC, and for a label
abbrev pub later_by : Form → ℕ → Result Block Refusal → Result ℕ Refusal
later_by form ssrc (Ok (Arrivals its n number)) = cond (same_form its form && number == ssrc) (Ok n) (Err Contents)
later_by form ssrc (Ok (Label its n number)) = Err Contents
later_by form ssrc (Err refusal) = Err refusal

unfoldable pub later_of : Form → ℕ → List ℕ → Result ℕ Refusal
later_of form ssrc b = later_by form ssrc (block_of b)
