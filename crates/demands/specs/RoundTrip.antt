-- Demand 2, reports: what is written reads back to the same fields (document 01, "Packets": behind an 8-byte RR, the block in an XR packet). The RR is the one
-- that begins the compound of a table.
use Rattle.std.specs.Prelude.{◌≡◌, true, List, ◌++◌, ℕ, ◌+◌, ◌*◌, ◌/◌, ◌^◌, ◌<◌, length, Some, None, Ok}
use Rattle.numbers.specs.BigEndian.{bytes}
use Rattle.source.specs.declared.Source.{Source}
use Rattle.report.specs.Carried.{highest_of, counts_of}
use Rattle.report.specs.Reports.{feedback_bytes, summary_bytes}
use Rattle.rtcp.specs.declared.Profile.{Profile}
use Rattle.rtcp.specs.Compound.{reading}
use Rattle.sources.specs.Compounds.{receiver_report}

-- an XR packet of one block (RFC 3611, section 2): version 2, no padding; type 207; length; SSRC; the block
unfoldable pub xr_packet : ℕ → List ℕ → List ℕ
xr_packet ssrc block = bytes 1 (2 * 64) ++ bytes 1 207 ++ bytes 2 (1 + length block / 4) ++ bytes 4 ssrc ++ block

-- for every record, whatever the SSRCs (32 bits each) and the profile: the feedback packet alone is found, with the fields that it carries of
-- the record
abbrev pub FeedbackReadsBack : Type 0
FeedbackReadsBack =
    (s : Source) (from sender media : ℕ) (profile : Profile) → sender < 2 ^ 32 → media < 2 ^ 32
    → reading (receiver_report from ++ feedback_bytes sender media s) media profile
    ≡ Ok (record {
      report = None;
      feedback = Some (record { sender = sender; highest = highest_of s; counts = counts_of s });
      summary = None;
      reporting = true;
    })

-- and so is the summary block
abbrev pub SummaryReadsBack : Type 0
SummaryReadsBack =
    (s : Source) (from media : ℕ) (profile : Profile) → media < 2 ^ 32
    → reading (receiver_report from ++ xr_packet from (summary_bytes media s)) media profile
    ≡ Ok (record {
      report = None;
      feedback = None;
      summary = Some (counts_of s);
      reporting = true;
    })

-- no report is read that was not there: an RR alone gives none, whoever is asked about
abbrev pub NothingMadeUp : Type 0
NothingMadeUp =
    (from media : ℕ) (profile : Profile)
    → reading (receiver_report from) media profile
    ≡ Ok (record { report = None; feedback = None; summary = None; reporting = true })
