-- What the readers of a trace's blocks answer, by the paper's numbers and values (document 01, "Trace file" and "Refusal numbers"; 02, request L14).
use Rattle.answers.specs.declared.Unwritten.{Unwritten}
use Rattle.answers.specs.declared.Refusal.{Refusal}
use Rattle.std.specs.Prelude.{ℕ, Option, Some, None, Result, Ok, Err}
use Rattle.answers.specs.Numbered.{Numbered, succeeds, refuses}
use Rattle.answers.specs.Refusals.{room_number}
use Rattle.format.specs.Forms.{shape_of}
use Rattle.trace.specs.declared.Record.{Record}
use Rattle.trace.specs.declared.Block.{Block}
use Rattle.trace.specs.declared.Block.TheVariants as block
use Rattle.trace.specs.declared.Zeroth.{Zeroth}

-- the header of a block: its kind, 1 to 4; its count, a label's bytes or the number of records; its SSRC
pub record Header : Type 0 where
  pub kind : ℕ
  pub count : ℕ
  pub ssrc : ℕ

abbrev pub read_as : Result Block Refusal → Numbered (Option Header)
read_as (Ok (block.Label form length ssrc)) = succeeds (Some (record { kind = (shape_of form).label; count = length; ssrc = ssrc }))
read_as (Ok (block.Arrivals form count ssrc)) = succeeds (Some (record { kind = (shape_of form).arrivals; count = count; ssrc = ssrc }))
read_as (Err refusal) = refuses refusal None

-- block 0
abbrev pub zeroth_as : Result Zeroth Refusal → Numbered (Option Header)
zeroth_as (Ok own) = succeeds (Some (record { kind = (shape_of own.form).label; count = own.length; ssrc = own.ssrc }))
zeroth_as (Err refusal) = refuses refusal None

-- a later block: the number of records
abbrev pub later_as : Result ℕ Refusal → Numbered (Option ℕ)
later_as (Ok count) = succeeds (Some count)
later_as (Err refusal) = refuses refusal None

-- the record at a place
abbrev pub found_as : Result Record Refusal → Numbered (Option Record)
found_as (Ok r) = succeeds (Some r)
found_as (Err refusal) = refuses refusal None

-- the bytes replaced in a label; 12 with the bytes of the block
abbrev pub spaced_as : Result ℕ Unwritten → Numbered (Option ℕ)
spaced_as (Ok number) = succeeds (Some number)
spaced_as (Err (Unwritten.Room size)) = record { number = room_number; values = Some size }
spaced_as (Err (Unwritten.Refused refusal)) = refuses refusal None
