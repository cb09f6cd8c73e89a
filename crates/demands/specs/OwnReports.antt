-- RFC 8083, section 5, with document 02, L2 and L4: which of the breaker's calls our own compound is for, written and read back. (With a restart in between,
-- L5, the later record has counted from then on alone.)
use Rattle.rtcp.specs.declared.Compound.{Compound}
use Rattle.answers.specs.declared.Refusal.{Refusal}
use Rattle.between.specs.declared.calls.Kept.{Kept}
use Rattle.std.specs.Prelude.{◌≡◌, List, ◌++◌, ℕ, ◌^◌, ◌<◌, pos, ◌-ℤ◌, Option, Some, None, Result, Ok, Err}
use Rattle.source.specs.declared.Source.{Source}
use Rattle.report.specs.Carried.{highest_of, counts_of}
use Rattle.report.specs.Reports.{feedback_bytes}
use Rattle.sources.specs.Compounds.{receiver_report}
use Rattle.rtcp.specs.declared.Profile.{Profile}
use Rattle.rtcp.specs.Compound.{reading}
use Rattle.breaker.specs.declared.EcnCounts.{EcnCounts}
use Rattle.breaker.specs.declared.Loss.TheVariants as loss
use Rattle.between.specs.declared.calls.Call.{Call}
use Rattle.between.specs.declared.calls.PacketCall.{PacketCall}
use Rattle.between.specs.PacketCalls.{kept_of, call_for}
use Rattle.between.specs.Theorems.{Told, Ahead, TrueSignals}
use Rattle.demands.specs.BetweenReports.{truth_of}

-- our compound about a source: an RR without report blocks, and the ECN feedback of its record
abbrev pub own_compound : ℕ → ℕ → Source → List ℕ
own_compound sender media s = receiver_report sender ++ feedback_bytes sender media s

-- the call for a packet that was read, and what is kept then; one that is refused is for no call
abbrev pub packet_call : Result Compound Refusal → Option Kept → Option PacketCall
packet_call (Ok c) kept = Some (call_for c kept)
packet_call (Err refusal) kept = None

-- what is kept of a record's compound
abbrev pub kept_from : Source → Option Kept
kept_from s = Some (kept_of (highest_of s) (counts_of s))

pub record OwnReport (later earlier : Source) (sender media : ℕ) (profile : Profile) : Type 0 where
  -- the first compound is a report with the counts 0, 0, 0
  pub first : packet_call (reading (own_compound sender media earlier) media profile) None
      ≡ Some (record { call = Call.Report (highest_of earlier) (loss.Counts (record { lost = pos 0; marked = 0; expected = 0 })); kept = kept_from earlier })
  -- the next one, with what was kept of it, is a report with L, C and E
  pub counts : EcnCounts
  pub next : packet_call (reading (own_compound sender media later) media profile) (kept_from earlier)
      ≡ Some (record { call = Call.Report (highest_of later) (loss.Counts counts); kept = kept_from later })
  -- and these are the differences of the records
  pub signals : TrueSignals (truth_of later) (truth_of earlier) counts.lost counts.marked
  pub expected_is : pos counts.expected ≡ later.highest.0 -ℤ earlier.highest.0

-- of two records of one source whose differences are in range, under both profiles
abbrev pub OwnReports : Type 0
OwnReports =
    (later earlier : Source) (sender media : ℕ) (profile : Profile) → sender < 2 ^ 32 → media < 2 ^ 32
    → Told (truth_of later) (truth_of earlier) → Ahead (truth_of later) (truth_of earlier) → OwnReport later earlier sender media profile
