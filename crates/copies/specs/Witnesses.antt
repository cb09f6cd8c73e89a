-- Traces whose blocks are all sound, with which the hypotheses of the theorems are met.
use Rattle.std.specs.Prelude.{◌≡◌, List, [], ◌∷◌, ◌++◌, ℕ, Some, None}
use Rattle.answers.specs.declared.Refusal.TheVariants.{FormTwo}
use Rattle.format.specs.Forms.{shape_of}
use Rattle.format.specs.declared.Form.TheVariants.{One, Two}
use Rattle.trace.specs.Layout.{label_block, arrivals_block}
use Rattle.walk.specs.Blocks.{blocks_of}
use Rattle.walk.specs.Programs.{walked}
use Rattle.convert.specs.Tables.{ecntable}
use Rattle.forms.specs.Converted.{ecnforms}
use Rattle.copies.specs.Theorems.{SoundTrace}

-- an old label, `p`, CR, LF, `1`: bytes 10 and 13 are retired
abbrev pub label : List ℕ
label = label_block (shape_of One) (112 ∷ 13 ∷ 10 ∷ 49 ∷ []) 1

-- a block with one arrival of a source; source 1 is the label's
abbrev pub arrival : ℕ → ℕ → List ℕ
arrival ssrc number = arrivals_block (shape_of One) (record { time = 4294967295; number = record { 0 = number }; mark = 3 } ∷ []) ssrc

abbrev pub whole : List ℕ
whole = label ++ arrival 1 7

-- a time that form 1 has no bytes for
abbrev pub late : List ℕ
late = label_block (shape_of Two) [] 1 ++ arrivals_block (shape_of Two) (record { time = 4294967296; number = record { 0 = 7 }; mark = 3 } ∷ []) 1

-- what they meet, by theorem; of the late time 17
pub record Met : Type 0 where
  -- CopyIsCut, TableAccepts
  pub sound : SoundTrace whole One 4 1
  -- AcceptedIsSound
  pub accepted : (walked ecntable (blocks_of whole)).ended ≡ None
  -- FormsRefuseTimes
  pub late_sound : SoundTrace late Two 0 1
  pub late_refused : (walked ecnforms (blocks_of late)).ended ≡ Some (record { refusal = FormTwo; block = 1 })
