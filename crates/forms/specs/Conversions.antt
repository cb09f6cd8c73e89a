-- Request L10: what each call does with a block. `part` is the lent buffer that holds the records of a block that is not full yet, as its body has them.
use Rattle.answers.specs.declared.Unwritten.{Unwritten}
use Rattle.std.specs.Prelude.{◌≡◌, ℕ, Bool, cond, List, [], ◌∷◌, ◌++◌, leb, ltb, length, take, Option, Some, None, Result, Ok, Err}
use Rattle.std.proofs.lemmas.List.Edits.{sets}
use Rattle.answers.specs.Conditions.{all}
use Rattle.answers.specs.Writers.{written, stored}
use Rattle.answers.specs.declared.Refusal.{Refusal}
use Rattle.answers.specs.declared.Refusal.TheVariants.{Malformed, FormTwo}
use Rattle.format.specs.Blocks.{body_bytes}
use Rattle.format.specs.Forms.{Shape, shape_of, other_form}
use Rattle.format.specs.declared.Form.{Form}
use Rattle.trace.specs.Layout.{records_bytes, label_block, body_of}
use Rattle.trace.specs.Contents.{every, is_time, good_records}
use Rattle.trace.specs.Places.{zeroth_of, later_of}
use Rattle.trace.specs.Theorems.{records_in, list_of}
use Rattle.trace.specs.declared.Zeroth.{Zeroth}
use Rattle.trace.specs.declared.Record.{Record}
use Rattle.walk.specs.Steps.{Next, goes, refuses, fault_in, state_after, Stepped}
use Rattle.forms.specs.Packing.{full_blocks, full, left, last_block}
use Rattle.forms.specs.declared.Conversion.{Conversion}
use Rattle.forms.specs.declared.Step.{Step}

-- the shape of the form that is written
abbrev pub to_shape : Conversion → Shape
to_shape c = shape_of (other_form c.form)

-- ---- block 0: a label, written in the other form. 1, 13, 14, then 12

abbrev pub begin_fault : Result Zeroth Refusal → Option Refusal
begin_fault (Ok label) = None
begin_fault (Err refusal) = Some refusal

abbrev pub begin_bytes : List ℕ → Result Zeroth Refusal → List ℕ
begin_bytes b (Ok label) = label_block (shape_of (other_form label.form)) (take label.length (body_of b)) label.ssrc
begin_bytes b (Err refusal) = []

-- a conversion that holds no record
abbrev pub started_by : Result Zeroth Refusal → ℕ → Result (Conversion × ℕ) Unwritten
started_by (Ok label) size = Ok ((record { form = label.form; ssrc = label.ssrc; held = 0 }), size)
started_by (Err refusal) size = Err (Unwritten.Refused refusal)

abbrev pub begin_by : Result Zeroth Refusal → Result ℕ Unwritten → Result (Conversion × ℕ) Unwritten
begin_by block (Ok size) = started_by block size
begin_by block (Err unwritten) = Err unwritten

abbrev pub begin_of : List ℕ → List ℕ → Result (Conversion × ℕ) Unwritten
begin_of b old = begin_by (zeroth_of b) (written (begin_fault (zeroth_of b)) (begin_bytes b (zeroth_of b)) old)

abbrev pub begin_stored : List ℕ → List ℕ → List ℕ
begin_stored b old = stored (begin_fault (zeroth_of b)) (begin_bytes b (zeroth_of b)) old

-- `r` and `out` are what the call on block 0 gives
pub record Began (b old : List ℕ) (r : Result (Conversion × ℕ) Unwritten) (out : List ℕ) : Type 0 where
  pub answers : r ≡ begin_of b old
  pub stores : out ≡ begin_stored b old

-- ---- the others: arrivals of the label's form and SSRC. 9, the block's refusal, 17, then 12

-- whether a form has bytes for the times of all records
abbrev pub all_times : Shape → List Record → Bool
all_times shape records = every (is_time shape) (list_of (λ r. r.time) records)

-- what a block brings, records or a refusal: 17 where the other form has no bytes for a time
unfoldable pub timed : Shape → List Record → Next (List Record)
timed shape records = cond (all_times shape records) (goes records) (refuses FormTwo)

abbrev pub next_by : Form → List ℕ → Result ℕ Refusal → Next (List Record)
next_by own b (Ok n) = timed (shape_of (other_form own)) (records_in (shape_of own) n (body_of b))
next_by own b (Err refusal) = refuses refusal

unfoldable pub next_of : Form → ℕ → List ℕ → Next (List Record)
next_of own ssrc b = next_by own b (later_of own ssrc b)

-- the records that are held
abbrev pub held_in : Conversion → List ℕ → List Record
held_in c part = records_in (to_shape c) c.held part

-- fewer records than a block may have, each with a mark and then a zero, in a buffer for a body; else 9
abbrev pub conditions : Conversion → List ℕ → List Bool
conditions c part = leb body_bytes (length part) ∷ ltb c.held (to_shape c).most ∷ good_records (to_shape c) c.held part ∷ []

unfoldable pub sound : Conversion → List ℕ → Bool
sound c part = all (conditions c part)

-- 9 for a malformed conversion, before the block is looked at
unfoldable pub call_next : Conversion → List ℕ → List ℕ → Next (List Record)
call_next c part b = cond (sound c part) (next_of c.form c.ssrc b) (refuses Malformed)

-- what a block prints: the full blocks of what is held and what comes
abbrev pub bytes_in : Conversion → List ℕ → Next (List Record) → List ℕ
bytes_in c part (goes records) = full_blocks (to_shape c) c.ssrc (full (to_shape c) (held_in c part ++ records)) (held_in c part ++ records)
bytes_in c part (refuses refusal) = []

-- what is carried from block to block: the conversion and the lent part
pub record Carried : Type 0 where
  pub conversion : Conversion
  pub part : List ℕ

abbrev pub carries : Conversion → List ℕ → Carried
carries c part = record { conversion = c; part = part }

-- the records behind the full blocks are held then, their bytes at the front of the part
unfoldable pub holding : Conversion → List Record → Conversion
holding c records = record { form = c.form; ssrc = c.ssrc; held = length (left (to_shape c) records) }

abbrev pub part_with : Conversion → List ℕ → List Record → List ℕ
part_with c part records = sets part 0 (records_bytes (to_shape c) (left (to_shape c) records))

abbrev pub carried_by : Conversion → List ℕ → Next (List Record) → Next Carried
carried_by c part (goes records) = goes (carries (holding c (held_in c part ++ records)) (part_with c part (held_in c part ++ records)))
carried_by c part (refuses refusal) = refuses refusal

-- the call on a block that brings `next`: its answer, its output, and what is carried then, which a refusal or 12 leaves as it was
abbrev pub answer_of : Conversion → List ℕ → Next (List Record) → List ℕ → Result ℕ Unwritten
answer_of c part next old = written (fault_in (carried_by c part next)) (bytes_in c part next) old

abbrev pub stored_of : Conversion → List ℕ → Next (List Record) → List ℕ → List ℕ
stored_of c part next old = stored (fault_in (carried_by c part next)) (bytes_in c part next) old

abbrev pub after_of : Conversion → List ℕ → Next (List Record) → List ℕ → Carried
after_of c part next old = state_after (carries c part) (carried_by c part next) (answer_of c part next old)

-- `r`, `kept` and `out` are what it gives
abbrev pub TakesBlock : Conversion → List ℕ → Next (List Record) → List ℕ → Step → List ℕ → List ℕ → Type 0
TakesBlock c part next old r kept out = Stepped (carries c part) (carried_by c part next) (bytes_in c part next) old r.answer (carries r.conversion kept) out

-- ---- the end: the records that are held, in a last block. 9, then 12

-- 9 for a malformed conversion
unfoldable pub close_fault : Conversion → List ℕ → Option Refusal
close_fault c part = cond (sound c part) None (Some Malformed)

abbrev pub close_bytes : Conversion → List ℕ → List ℕ
close_bytes c part = last_block (to_shape c) c.ssrc (held_in c part)
