-- Requests L11 and L14: which blocks of a trace are copied as they stand, by ecntable's rule (trace, `later_of`).
use Rattle.std.specs.Prelude.{List, [], ◌∷◌, ℕ, suc, ◌*◌, Option, Some, None, Result, Ok, Err}
use Rattle.answers.specs.declared.Refusal.{Refusal}
use Rattle.format.specs.Blocks.{block_bytes}
use Rattle.format.specs.declared.Form.{Form}
use Rattle.trace.specs.Places.{later_of}
use Rattle.walk.specs.Pieces.{whole_in}
use Rattle.copies.specs.declared.Front.{Front}

-- why a block is none of a trace's arrivals, if it is none
abbrev pub fault_by : Result ℕ Refusal → Option Refusal
fault_by (Ok n) = None
fault_by (Err refusal) = Some refusal

unfoldable pub fault_of : Form → ℕ → List ℕ → Option Refusal
fault_of form ssrc b = fault_by (later_of form ssrc b)

-- how many of the first blocks are sound, and the refusal of the next one, if there is one
pub record Sound : Type 0 where
  pub many : ℕ
  pub refusal : Option Refusal

abbrev pub sound_by : Option Refusal → Sound → Sound
sound_by None rest = record { many = suc rest.many; refusal = rest.refusal }
sound_by (Some refusal) rest = record { many = 0; refusal = Some refusal }

unfoldable pub sound_in : Form → ℕ → List (List ℕ) → Sound
sound_in form ssrc [] = record { many = 0; refusal = None }
sound_in form ssrc (b ∷ bs) = sound_by (fault_of form ssrc b) (sound_in form ssrc bs)

-- the same in bytes, of the whole blocks of a piece
abbrev pub front_by : Sound → Front
front_by s = record { bytes = block_bytes * s.many; ended = s.refusal }

unfoldable pub front_of : Form → ℕ → List ℕ → Front
front_of form ssrc piece = front_by (sound_in form ssrc (whole_in piece))
