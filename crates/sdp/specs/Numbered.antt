-- What is answered to a line and to an offer, by the paper's numbers and values (document 02, request L11).
use Rattle.std.specs.Prelude.{Option, Some, None, Result, Ok, Err}
use Rattle.answers.specs.declared.Refusal.{Refusal}
use Rattle.answers.specs.Numbered.{Numbered, succeeds, refuses}
use Rattle.sdp.specs.declared.Attribute.{Attribute}
use Rattle.sdp.specs.declared.Chosen.{Chosen}
use Rattle.sdp.specs.Reading.{nothing}

-- a line: what it says, or no method, no mode and no ect where it is refused
abbrev pub line_as : Result Attribute Refusal → Numbered Attribute
line_as (Ok attribute) = succeeds attribute
line_as (Err refusal) = refuses refusal nothing

-- an offer: what the answer carries, or none where the attribute is left out
abbrev pub negotiated_as : Result (Option Chosen) Refusal → Numbered (Option Chosen)
negotiated_as (Ok (Some c)) = succeeds (Some c)
negotiated_as (Ok None) = succeeds None
negotiated_as (Err refusal) = refuses refusal None
