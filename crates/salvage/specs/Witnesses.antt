-- Computed: a trace with a damaged block, one with a tail, and that the hypotheses of the theorems can be met.
use Rattle.std.specs.Prelude.{◌≡◌, List, [], ◌∷◌, ◌++◌, ℕ, ◌*◌, ◌^◌, ◌≤◌, ◌<◌, length, replicate, Some, None, Ok, Err}
use Rattle.answers.specs.Texts.{codes}
use Rattle.answers.specs.declared.Refusal.TheVariants.{Incomplete, Checksum, FormTwo}
use Rattle.format.specs.Blocks.{block_bytes}
use Rattle.format.specs.declared.Form.TheVariants.{One, Two}
use Rattle.trace.specs.Places.{zeroth_of, later_of}
use Rattle.walk.specs.Blocks.{blocks_of}
use Rattle.walk.specs.Programs.{Printed, walked}
use Rattle.walk.specs.Pieces.{Octets}
use Rattle.walk.specs.Machines.{Session}
use Rattle.forms.specs.Converted.{ecnforms}
use Rattle.copies.specs.Witnesses.{label, arrival, late}
use Rattle.salvage.specs.Salvaged.{salvaged}
use Rattle.salvage.specs.Pieces.{moved_by, Takes, calls}
use Rattle.salvage.specs.declared.Progress.{Progress}

-- a block that a stick gave no more: zeros
abbrev pub unread : List ℕ
unread = replicate 512 0

abbrev pub line_end : List ℕ
line_end = 13 ∷ 10 ∷ []

-- one damaged block, and one of another source
abbrev pub damaged : List ℕ
damaged = label ++ (arrival 1 7 ++ (unread ++ (arrival 2 8 ++ arrival 1 9)))

-- a tail of two bytes
abbrev pub tailed : List ℕ
tailed = label ++ (arrival 1 7 ++ (1 ∷ 2 ∷ []))

-- after the label block
abbrev pub begun : Progress
begun = record { form = One; ssrc = 1; block = 1; ended = None }

-- what they meet, by theorem; of the damaged block 13, of the late time 17, of an empty trace 1
pub record Met : Type 0 where
  -- what is printed
  pub saved : (salvaged damaged).out ≡ label ++ (arrival 1 7 ++ arrival 1 9)
  pub listed : (salvaged damaged).err ≡ (codes "refused 13 block 2" ++ line_end) ++ (codes "refused 14 block 3" ++ line_end)
  pub cut : (salvaged tailed).out ≡ label ++ arrival 1 7
  pub tail : (salvaged tailed).err ≡ codes "refused 1 block 2" ++ line_end
  pub empty_out : (salvaged []).out ≡ []
  pub empty_err : (salvaged []).err ≡ codes "refused 1 block 0" ++ line_end
  -- SalvageSorts, SalvageAccepted, LabelIsKept, SalvageAgain
  pub labelled : zeroth_of (blocks_of damaged).zeroth ≡ Ok (record { form = One; length = 4; ssrc = 1 })
  -- SalvageConverts
  pub late_labelled : zeroth_of (blocks_of late).zeroth ≡ Ok (record { form = Two; length = 0; ssrc = 1 })
  pub late_refused : (walked ecnforms (blocks_of (salvaged late).out)).ended ≡ Some (record { refusal = FormTwo; block = 1 })
  -- WrongLabel
  pub wrong : zeroth_of (blocks_of []).zeroth ≡ Err Incomplete
  -- ListedIsRefused
  pub zeros : later_of One 1 unread ≡ Err Checksum
  -- TracePrints: a session of one piece, and its tail
  pub octets : Octets tailed
  pub few : length tailed < block_bytes * 2 ^ 64
  pub session : (q : Printed) × Session calls tailed q
  -- BlocksGoOn: a call on one sound block
  pub long : block_bytes ≤ length (arrival 1 7)
  pub taken : Takes begun (arrival 1 7) (replicate 64 0) (record { copied = 512; bytes = 512; answer = Ok 0; progress = moved_by begun 1 }) (replicate 64 0)
