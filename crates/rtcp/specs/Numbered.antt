-- What a reader of compounds answers, by the paper's number and values (document 01, "Packets" and "Refusal numbers").
use Rattle.std.specs.Prelude.{Option, Some, None, Result, Ok, Err}
use Rattle.answers.specs.declared.Refusal.{Refusal}
use Rattle.answers.specs.Numbered.{Numbered, succeeds, refuses}
use Rattle.rtcp.specs.declared.Compound.{Compound}

-- report block, feedback and summary entry, each present or absent
abbrev pub reading_as : Result Compound Refusal → Numbered (Option Compound)
reading_as (Ok c) = succeeds (Some c)
reading_as (Err refusal) = refuses refusal None
