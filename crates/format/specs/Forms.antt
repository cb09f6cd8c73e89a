-- Document 01, "Trace file", and request L10: what the form of a trace fixes.
use Rattle.std.specs.Prelude.{ℕ, ◌+◌, ◌^◌, Bool, cond, eqb}
use Rattle.format.specs.Blocks.{most_records, behind_time}
use Rattle.format.specs.declared.Form.{Form}
use Rattle.format.specs.declared.Form.TheVariants.{One, Two}
use Rattle.format.specs.declared.Kind.{Kind}
use Rattle.format.specs.declared.Kind.TheVariants.{Label, Arrivals, Unknown}

-- the kinds of a label block and of an arrivals block, the bytes of a time, the most records of a block
pub record Shape : Type 0 where
  pub label : ℕ
  pub arrivals : ℕ
  pub time : ℕ
  pub most : ℕ

abbrev pub shape_of : Form → Shape
shape_of One = record { label = 1; arrivals = 2; time = 4; most = most_records }
shape_of Two = record { label = 3; arrivals = 4; time = 6; most = 50 }

-- the bytes of a record: time, wire number (2), mark (1), zero (1)
abbrev pub width : Shape → ℕ
width shape = shape.time + behind_time

-- a time has as many bits as its bytes
abbrev pub time_limit : Shape → ℕ
time_limit shape = 256 ^ shape.time

-- whether two forms are one: they are told apart by the kind of a label block
abbrev pub same_form : Form → Form → Bool
same_form a b = eqb (shape_of a).label (shape_of b).label

-- the form that a trace is converted to
abbrev pub other_form : Form → Form
other_form One = Two
other_form Two = One

-- what a block's kind says
abbrev pub kind_of : ℕ → Kind
kind_of kind = cond (eqb kind 1) (Label One) (cond (eqb kind 2) (Arrivals One) (cond (eqb kind 3) (Label Two) (cond (eqb kind 4) (Arrivals Two) Unknown)))
