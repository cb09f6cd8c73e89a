-- Computed: an old label with CR LF in it, a refused block, and that the hypotheses of the theorems can be met.
use Rattle.std.specs.Prelude.{◌≡◌, List, [], ◌∷◌, ◌++◌, ℕ, ◌*◌, ◌^◌, ◌≤◌, ◌<◌, length, replicate, Some, None, Ok, Err}
use Rattle.answers.specs.Texts.{codes}
use Rattle.answers.specs.declared.Refusal.TheVariants.{Incomplete, Checksum, FormTwo}
use Rattle.format.specs.Blocks.{block_bytes}
use Rattle.format.specs.Forms.{shape_of}
use Rattle.format.specs.declared.Form.TheVariants.{One}
use Rattle.trace.specs.Layout.{label_block}
use Rattle.trace.specs.Places.{zeroth_of}
use Rattle.trace.specs.Retired.{retired_in}
use Rattle.walk.specs.Blocks.{blocks_of}
use Rattle.walk.specs.Programs.{Printed, walked}
use Rattle.walk.specs.Pieces.{Octets}
use Rattle.walk.specs.Machines.{Session}
use Rattle.forms.specs.Converted.{ecnforms}
use Rattle.copies.specs.Fronts.{sound_in}
use Rattle.copies.specs.Witnesses.{label, arrival, whole, late}
use Rattle.labels.specs.Labelled.{labelled}
use Rattle.labels.specs.Pieces.{taken_of, calls}
use Rattle.labels.specs.declared.Progress.{Progress}
use Rattle.labels.specs.Theorems.{label_in}

-- two spaces for CR and LF
abbrev pub new : List ℕ
new = label_block (shape_of One) (codes "p  1") 1

abbrev pub line_end : List ℕ
line_end = 13 ∷ 10 ∷ []

-- a damaged block, and a tail of two bytes
abbrev pub damaged : List ℕ
damaged = label ++ (arrival 1 7 ++ replicate 512 0)

abbrev pub tailed : List ℕ
tailed = label ++ (arrival 1 7 ++ (1 ∷ 2 ∷ []))

-- after the label block
abbrev pub begun : Progress
begun = record { form = One; ssrc = 1; replaced = 2; block = 1; ended = None }

-- what they meet, by theorem; of the late time 17, of the damaged block 13, of an empty trace 1
pub record Met : Type 0 where
  -- what is printed
  pub copied : (labelled whole).out ≡ new ++ arrival 1 7
  pub number : (labelled whole).err ≡ codes "2" ++ line_end
  pub before : (labelled damaged).out ≡ new ++ arrival 1 7
  pub refused : (labelled damaged).err ≡ codes "refused 13 block 2" ++ line_end
  pub cut : (labelled tailed).out ≡ new ++ arrival 1 7
  pub tail : (labelled tailed).err ≡ codes "refused 1 block 2" ++ line_end
  pub empty_out : (labelled []).out ≡ []
  pub empty_err : (labelled []).err ≡ codes "refused 1 block 0" ++ line_end
  -- SpacedLabel, TableTakes, LabelledTwice, SameRows, SoundIsTaken
  pub octets : Octets whole
  -- FormsTake, NoneRetired
  pub late_octets : Octets late
  pub late_refused : (walked ecnforms (blocks_of (labelled late).out)).ended ≡ Some (record { refusal = FormTwo; block = 1 })
  pub none_retired : retired_in (label_in 0 late) ≡ 0
  -- RefusedLabel, RefusedBlock
  pub wrong : zeroth_of (blocks_of []).zeroth ≡ Err Incomplete
  pub labelled : zeroth_of (blocks_of damaged).zeroth ≡ Ok (record { form = One; length = 4; ssrc = 1 })
  pub next : (sound_in One 1 (blocks_of damaged).others).refusal ≡ Some Checksum
  -- TracePrints: a session of one piece, and its tail
  pub tailed_octets : Octets tailed
  pub few : length tailed < block_bytes * 2 ^ 64
  pub session : (q : Printed) × Session calls tailed q
  -- BlocksGoOn
  pub long : block_bytes ≤ length (arrival 1 7)
  pub going : (taken_of begun (arrival 1 7)).progress.ended ≡ None
