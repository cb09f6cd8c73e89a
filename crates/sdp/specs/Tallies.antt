-- What the reader keeps while it goes: how many items it passed, and the record so far. The reader's own calls promise these; no public statement rests on them.
use Rattle.std.specs.Prelude.{cond, ℕ, ◌+◌, ◌≤◌, ltb, Option, Some, None, Result, Ok}
use Rattle.answers.specs.declared.Refusal.{Refusal}
use Rattle.answers.specs.declared.Refusal.TheVariants as why
use Rattle.sdp.specs.declared.Mode.{Mode}
use Rattle.sdp.specs.declared.Ect.{Ect}
use Rattle.sdp.specs.declared.Attribute.{Attribute}
use Rattle.sdp.specs.declared.steps.Part.{Part}
use Rattle.sdp.specs.declared.steps.Part.TheVariants as part
use Rattle.sdp.specs.declared.steps.Item.{Item}
use Rattle.sdp.specs.declared.steps.Item.TheVariants as item
use Rattle.sdp.specs.declared.reader.Tally.{Tally}
use Rattle.sdp.specs.Reading.{nothing, refused_by}
use Rattle.sdp.specs.Answers.{with_method}

abbrev pub in_methods : Part → ℕ
in_methods part.Methods = 1
in_methods part.Parms = 0

abbrev pub in_parms : Part → ℕ
in_parms part.Methods = 0
in_parms part.Parms = 1

abbrev pub is_mode : Item → ℕ
is_mode (item.Known m) = 0
is_mode (item.Mode m) = 1
is_mode (item.Ect e) = 0
is_mode item.Other = 0
is_mode item.Nothing = 0

abbrev pub is_ect : Item → ℕ
is_ect (item.Known m) = 0
is_ect (item.Mode m) = 0
is_ect (item.Ect e) = 1
is_ect item.Other = 0
is_ect item.Nothing = 0

-- the first of two stays
abbrev pub or_mode : Option Mode → Option Mode → Option Mode
or_mode None later = later
or_mode (Some m) later = Some m

abbrev pub or_ect : Option Ect → Option Ect → Option Ect
or_ect None later = later
or_ect (Some e) later = Some e

abbrev pub with_mode : Attribute → Mode → Attribute
with_mode a m = record { used = a.used; methods = a.methods; mode = or_mode a.mode (Some m); ect = a.ect }

abbrev pub with_ect : Attribute → Ect → Attribute
with_ect a e = record { used = a.used; methods = a.methods; mode = a.mode; ect = or_ect a.ect (Some e) }

-- the record with one item more
abbrev pub with_item : Attribute → Item → Attribute
with_item a (item.Known m) = with_method a m
with_item a (item.Mode m) = with_mode a m
with_item a (item.Ect e) = with_ect a e
with_item a item.Other = a
with_item a item.Nothing = a

abbrev pub no_tally : Tally
no_tally = record { methods = 0; parms = 0; modes = 0; ects = 0; attribute = nothing }

unfoldable pub noted : Tally → Part → Item → Tally
noted t p i =
    record {
      methods = t.methods + in_methods p;
      parms = t.parms + in_parms p;
      modes = t.modes + is_mode i;
      ects = t.ects + is_ect i;
      attribute = with_item t.attribute i;
    }

-- counts that are at most n
pub record Small (t : Tally) (n : ℕ) : Type 0 where
  pub methods : t.methods ≤ n
  pub parms : t.parms ≤ n
  pub modes : t.modes ≤ n
  pub ects : t.ects ≤ n

-- 18: a second mode or ect; 10: over 8 methods or parameters
unfoldable pub finished : Tally → Result Attribute Refusal
finished t =
    cond (ltb 1 t.modes) (refused_by why.Attribute)
    (cond (ltb 1 t.ects) (refused_by why.Attribute)
    (cond (ltb 8 t.methods) (refused_by why.Limits)
    (cond (ltb 8 t.parms) (refused_by why.Limits)
    (Ok t.attribute))))
