-- Which of the breaker's calls a packet is for. RFC 8083, section 5: packets that "do not contain an RTCP SR or RR packet MUST be ignored by the
-- congestion circuit breaker" and "MUST be counted as received packets for the RTCP timeout circuit breaker"; the count of ECN-CE-marked packets is
-- "counted towards the number of lost packets reported if the ECN Feedback Report is sent in a compound RTCP packet along with an RTCP SR/RR report
-- packet". Document 02, L4: one that has SR or RR counts fully; L2: what counts, and that f is 0 where none were expected.
use Rattle.rtcp.specs.declared.ReportBlock.{ReportBlock}
use Rattle.rtcp.specs.declared.Feedback.{Feedback}
use Rattle.breaker.specs.declared.EcnCounts.{EcnCounts}
use Rattle.answers.specs.declared.Refusal.{Refusal}
use Rattle.std.specs.Prelude.{not, cond, ℕ, pos, Option, Some, None, Result, Ok, Err}
use Rattle.format.specs.declared.Counts.{Counts}
use Rattle.breaker.specs.declared.Loss.TheVariants as loss
use Rattle.rtcp.specs.declared.Compound.{Compound}
use Rattle.between.specs.declared.calls.Kept.{Kept}
use Rattle.between.specs.declared.calls.Call.{Call}
use Rattle.between.specs.declared.calls.PacketCall.{PacketCall}
use Rattle.between.specs.Differences.{signals_of, expecting_of}

-- ---- ECN reports

-- what is kept of an ECN report: the highest number that goes with it, and of its counters those that tell of congestion
abbrev pub kept_of : ℕ → Counts → Kept
kept_of highest c = record { highest = highest; ce = c.ce; lost = c.lost }

-- the ECN report in a packet: of the feedback; else of a summary entry, with the highest number of the report block beside it (RFC 6679, section 5.2)
abbrev pub ecn_report_by : Option Feedback → Option Counts → Option ReportBlock → Option Kept
ecn_report_by (Some f) s r = Some (kept_of f.highest f.counts)
ecn_report_by None (Some s) (Some r) = Some (kept_of r.highest s)
ecn_report_by None (Some s) None = None
ecn_report_by None None r = None

abbrev pub ecn_report_of : Compound → Option Kept
ecn_report_of c = ecn_report_by c.feedback c.summary c.report

-- where there is none the earlier one stays kept
abbrev pub or_earlier : Option Kept → Option Kept → Option Kept
or_earlier (Some new) earlier = Some new
or_earlier None earlier = earlier

-- what is kept after a packet; one without SR or RR keeps nothing anew
unfoldable pub kept_after : Compound → Option Kept → Option Kept
kept_after c earlier = cond (not c.reporting) earlier (or_earlier (ecn_report_of c) earlier)

-- ---- what came since the earlier one

-- the counters that tell of congestion; the others play no part
abbrev pub counters_given : ℕ → ℕ → Counts
counters_given ce lost = record { ect0 = 0; ect1 = 0; ce = ce; notect = 0; lost = lost; duplicates = 0 }

-- L, C and E, or 10 where the highest number went back
unfoldable pub since_kept : Kept → Kept → Result EcnCounts Refusal
since_kept later earlier =
    expecting_of (signals_of (counters_given later.ce later.lost) (counters_given earlier.ce earlier.lost)) later.highest earlier.highest

abbrev pub counts_in : Result EcnCounts Refusal → Option EcnCounts
counts_in (Ok counts) = Some counts
counts_in (Err refusal) = None

-- both are there, and there are counts between them
abbrev pub counts_since : Option Kept → Option Kept → Option EcnCounts
counts_since (Some later) (Some earlier) = counts_in (since_kept later earlier)
counts_since (Some later) None = None
counts_since None earlier = None

-- ---- the call

-- the highest number: the report block's where there is one, else the feedback's
abbrev pub highest_by : Option ReportBlock → Option Feedback → ℕ
highest_by (Some r) f = r.highest
highest_by None (Some f) = f.highest
highest_by None None = 0

abbrev pub highest_in : Compound → ℕ
highest_in c = highest_by c.report c.feedback

-- a report with these counts, or what the later rules say
abbrev pub by_counts : ℕ → Option EcnCounts → Call → Call
by_counts highest (Some counts) next = Call.Report highest (loss.Counts counts)
by_counts highest None next = next

-- a report with the block's fraction, or what the later rules say
abbrev pub by_block : ℕ → Option ReportBlock → Call → Call
by_block highest (Some r) next = Call.Report highest (loss.Fraction r.fraction)
by_block highest None next = next

-- an ECN report with nothing to compare: a report with the counts 0, 0, 0, of which f is 0 (L2), or what the later rules say
abbrev pub alone : ℕ → Option Kept → Call → Call
alone highest (Some new) next = Call.Report highest (loss.Counts (record { lost = pos 0; marked = 0; expected = 0 }))
alone highest None next = next

-- 1. no SR or RR: heard
-- 2. an ECN report, and counts since the earlier one: a report with them
-- 3. a report block: a report with its fraction
-- 4. an ECN report alone, the first or one whose number went back: a report with the counts 0, 0, 0
-- 5. an SR or RR alone: heard
unfoldable pub call_of : Compound → Option Kept → Call
call_of c earlier =
    cond (not c.reporting) Call.Heard
    (by_counts (highest_in c) (counts_since (ecn_report_of c) earlier)
    (by_block (highest_in c) c.report
    (alone (highest_in c) (ecn_report_of c)
    Call.Heard)))

-- the call, and what is kept of the receiver after it
abbrev pub call_for : Compound → Option Kept → PacketCall
call_for c earlier = record { call = call_of c earlier; kept = kept_after c earlier }
