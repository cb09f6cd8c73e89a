-- What the private steps of a call ask and give.
use Rattle.std.specs.Prelude.{◌≡◌, true, List, ◌++◌, ℕ, ◌*◌, ◌≤◌, length}
use Rattle.std.proofs.lemmas.List.Edits.{sets}
use Rattle.format.specs.Forms.{shape_of, width, other_form}
use Rattle.format.specs.declared.Form.{Form}
use Rattle.trace.specs.Contents.{good_records}
use Rattle.trace.specs.Layout.{records_bytes}
use Rattle.trace.specs.Theorems.{records_in}
use Rattle.trace.specs.declared.Record.{Record}
use Rattle.forms.specs.Packing.{full_blocks, full, left}
use Rattle.forms.specs.Conversions.{to_shape, all_times, sound}
use Rattle.forms.specs.declared.Conversion.{Conversion}

-- the first `held` records of a part, which has the other form, and the first n of a body
pub record Joinable (form : Form) (held : ℕ) (part : List ℕ) (n : ℕ) (body : List ℕ) : Type 0 where
  pub held_long : held * width (shape_of (other_form form)) ≤ length part
  pub held_good : good_records (shape_of (other_form form)) held part ≡ true
  pub long : n * width (shape_of form) ≤ length body
  pub good : good_records (shape_of form) n body ≡ true

abbrev pub joined : Form → ℕ → List ℕ → ℕ → List ℕ → List Record
joined form held part n body = records_in (shape_of (other_form form)) held part ++ records_in (shape_of form) n body

-- the body of n records that the other form has bytes for, and a sound conversion
pub record Packable (c : Conversion) (part : List ℕ) (n : ℕ) (body : List ℕ) : Type 0 where
  pub whole : sound c part ≡ true
  pub few : n ≤ (shape_of c.form).most
  pub long : n * width (shape_of c.form) ≤ length body
  pub good : good_records (shape_of c.form) n body ≡ true
  pub timed : all_times (to_shape c) (records_in (shape_of c.form) n body) ≡ true

-- records parted: the full blocks in the output, and the others in the part
pub record Parted (c : Conversion) (records : List Record) (part old kept out : List ℕ) : Type 0 where
  pub stores : out ≡ sets old 0 (full_blocks (to_shape c) c.ssrc (full (to_shape c) records) records)
  pub keeps : kept ≡ sets part 0 (records_bytes (to_shape c) (left (to_shape c) records))
