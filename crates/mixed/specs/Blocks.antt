-- What an arrivals block does to the lines (document 02, L1): its arrivals are counted in the line of its SSRC, a new SSRC is put in its place, and a
-- seventeenth is refused.
use Rattle.answers.specs.declared.Refusal.{Refusal}
use Rattle.std.specs.Prelude.{ℕ, ◌*◌, cond, List, ltb, length, take, drop, Option, Some, None, Result, Ok, Err}
use Rattle.answers.specs.declared.Refusal.TheVariants.{Malformed, Contents, Places}
use Rattle.format.specs.Blocks.{body_at}
use Rattle.format.specs.Forms.{shape_of, width, same_form}
use Rattle.format.specs.declared.Form.{Form}
use Rattle.source.specs.declared.Totals.{Totals}
use Rattle.source.specs.Blocks.{block_count}
use Rattle.source.specs.Totals.{fresh_totals, with_block}
use Rattle.trace.specs.Reading.{block_of}
use Rattle.trace.specs.declared.Block.{Block}
use Rattle.trace.specs.declared.Block.TheVariants as read
use Rattle.walk.specs.Steps.{Next, goes, refuses}
use Rattle.mixed.specs.Places.{found_by, renewed_by, added_by}
use Rattle.mixed.specs.Lines.{Holding}

-- the most lines
abbrev pub most_lines : ℕ
most_lines = 16

-- totals with the n arrivals of a block
unfoldable pub counted : Form → ℕ → List ℕ → Totals → Totals
counted form n b t = with_block t (block_count t.source (width (shape_of form)) (take (n * width (shape_of form)) (drop body_at b)))

-- ---- the lines behind a block, or its refusal

-- a new SSRC: 15 where all lines are held
abbrev pub new_line : {A : Type 0} → Holding A → (Totals → Totals) → ℕ → List A → Next (List A)
new_line h count ssrc ls = cond (ltb (length ls) most_lines) (goes (added_by h.ssrc_of (h.line ssrc (count fresh_totals)) ls)) (refuses Places)

-- one that a line has: 9 for a malformed one
abbrev pub held_line : {A : Type 0} → Holding A → (Totals → Totals) → ℕ → List A → Option Totals → Next (List A)
held_line h count ssrc ls (Some t) = goes (renewed_by h.ssrc_of (h.line ssrc (count t)) ls)
held_line h count ssrc ls None = refuses Malformed

abbrev pub settled_by : {A : Type 0} → Holding A → (Totals → Totals) → ℕ → List A → Option A → Next (List A)
settled_by h count ssrc ls None = new_line h count ssrc ls
settled_by h count ssrc ls (Some l) = held_line h count ssrc ls (h.totals l)

unfoldable pub settled : {A : Type 0} → Holding A → (Totals → Totals) → ℕ → List A → Next (List A)
settled h count ssrc ls = settled_by h count ssrc ls (found_by h.ssrc_of ssrc ls)

-- 14 for another form than the label's, and for a label
abbrev pub next_by : {A : Type 0} → Holding A → Form → List ℕ → List A → Result Block Refusal → Next (List A)
next_by h own b ls (Ok (read.Arrivals form n ssrc)) = cond (same_form form own) (settled h (counted own n b) ssrc ls) (refuses Contents)
next_by h own b ls (Ok (read.Label form n ssrc)) = refuses Contents
next_by h own b ls (Err refusal) = refuses refusal

unfoldable pub next_of : {A : Type 0} → Holding A → Form → List ℕ → List A → Next (List A)
next_of h own b ls = next_by h own b ls (block_of b)
