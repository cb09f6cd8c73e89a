-- The hypotheses of the theorems can be met: for each of them, values that meet them all.
use Rattle.answers.specs.declared.Unwritten.{Unwritten}
use Rattle.std.specs.Prelude.{◌≡◌, true, List, [], ◌∷◌, ◌++◌, ℕ, ◌*◌, ◌^◌, ◌≤◌, ◌<◌, length, drop, replicate, Some, None, Ok, Err}
use Rattle.answers.specs.declared.Refusal.TheVariants.{Retired}
use Rattle.format.specs.Blocks.{block_bytes, body_bytes}
use Rattle.format.specs.Forms.{shape_of}
use Rattle.format.specs.declared.Form.TheVariants.{One}
use Rattle.trace.specs.Layout.{label_block, arrivals_block}
use Rattle.trace.specs.Reading.{block_of}
use Rattle.trace.specs.Theorems.{Below}
use Rattle.trace.specs.Writing.{label_fault}
use Rattle.trace.specs.declared.Block.TheVariants.{Label}
use Rattle.trace.specs.declared.Record.{Record}
use Rattle.walk.specs.Blocks.{blocks_of}
use Rattle.walk.specs.Programs.{Printed}
use Rattle.walk.specs.Pieces.{wholes}
use Rattle.walk.specs.Steps.{goes}
use Rattle.walk.specs.Machines.{Session}
use Rattle.walk.specs.Singles.{singly}
use Rattle.forms.specs.Conversions.{sound, begin_of, answer_of}
use Rattle.forms.specs.Converted.{converted}
use Rattle.forms.specs.Theorems.{block_calls, Convertible, FullButLast}
use Rattle.forms.specs.Pieces.{took_of, calls}
use Rattle.forms.specs.declared.pieces.Progress.{Progress}
use Rattle.forms.specs.declared.Conversion.{Conversion}

-- a trace of form 1: its label, which is CR LF, a full block and one that is not
abbrev pub text : List ℕ
text = 13 ∷ 10 ∷ []

abbrev pub arrival : ℕ → Record
arrival number = record { time = 4294967295; number = record { 0 = number }; mark = 3 }

abbrev pub fully : List Record
fully = replicate 62 (arrival 65535)

abbrev pub trace : List ℕ
trace = label_block (shape_of One) text 1 ++ (arrivals_block (shape_of One) fully 1 ++ arrivals_block (shape_of One) (arrival 0 ∷ []) 1)

-- a conversion of it that holds no record
abbrev pub fresh : Conversion
fresh = record { form = One; ssrc = 1; held = 0 }

-- behind the label block, and the bytes that are left then
abbrev pub begun : Progress
begun = record { conversion = fresh; block = 1; ended = None }

abbrev pub piece : List ℕ
piece = drop block_bytes trace

-- lent bytes
abbrev pub zeros : ℕ → List ℕ
zeros n = replicate n 0

-- what they meet, by theorem; the label writer refuses the text with 19
pub record Met : Type 0 where
  -- Packs, ConvertsWhole, ConvertedReads, SameRecords, SameBytes
  pub label : block_of (blocks_of trace).zeroth ≡ Ok (Label One 2 1)
  pub octets : Below 256 trace
  -- no new label is like its label: 19
  pub retired : label_fault text ≡ Some Retired
  pub taken : (converted trace).err ≡ []
  pub convertible : Convertible One 1 (blocks_of trace).others
  pub some : 1 ≤ length (blocks_of trace).others
  pub full : FullButLast (shape_of One).most (blocks_of trace).others
  -- CallsConvert: a block at a time
  pub part : body_bytes ≤ length (zeros 502)
  pub one_by_one : (q : Printed) × Session (singly (block_calls (zeros 502))) trace q
  -- LabelRoomIsExact, BlocksRoomIsExact: an empty output
  pub label_short : begin_of (blocks_of trace).zeroth [] ≡ Err (Unwritten.Room 512)
  pub short : answer_of fresh [] (goes fully) [] ≡ Err (Unwritten.Room 512)
  -- TracePrints: a session of one piece
  pub few : length trace < block_bytes * 2 ^ 64
  pub session : (q : Printed) × Session (calls (zeros 502)) trace q
  -- BlocksHaveRoom, EndHasRoom
  pub sound : sound fresh (zeros 502) ≡ true
  pub blocks : wholes piece ≤ 256
  pub none_refused : (took_of begun (zeros 502) piece (320 * block_bytes)).refusal ≡ None
