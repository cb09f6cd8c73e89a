-- The breaker's call for our own compound. Assumes nothing.
use Rattle.std.specs.Prelude.{None, Result}
use Rattle.rtcp.specs.declared.Compound.{Compound}
use Rattle.answers.specs.declared.Refusal.{Refusal}
use mathlib.Core.Path.{◌∙◌, ap}
use native.Mathlib.Omega.{arith}
use Rattle.report.specs.Carried.{highest_of, counts_of}
use Rattle.rtcp.specs.declared.Profile.{Profile}
use Rattle.between.specs.PacketCalls.{kept_after, call_of}
use Rattle.between.proofs.InLimits.{kept_is_enough}
use Rattle.demands.specs.BetweenReports.{second, last}
use Rattle.demands.specs.OwnReports.{packet_call, kept_from, OwnReports}
use Rattle.demands.proofs.ReadBack.{feedback_reads_back}
use Rattle.demands.proofs.BetweenReports.{between_reports, between_c1}

pub own_reports : OwnReports
unfolding call_of kept_after
own_reports later earlier sender media profile hs hm told ahead =
    let t = between_reports later earlier sender told ahead in
    let since = kept_is_enough (counts_of later) (counts_of earlier) (highest_of later) (highest_of earlier) ∙ t.given in
    record {
      first = ap (λ (r : Result Compound Refusal). packet_call r None) (feedback_reads_back earlier sender sender media profile hs hm);
      counts = t.counts;
      next = ap (λ (r : Result Compound Refusal). packet_call r (kept_from earlier)) (feedback_reads_back later sender sender media profile hs hm) ∙ rw since;
      signals = t.signals;
      expected_is = t.expected_is;
    }

-- C1's compounds behind its second and its last packet
used : Unit {0}
used =
    let c = between_c1 in
    let reports = own_reports last second 9 1 Profile.Compound (omega arith) (omega arith) c.told c.ahead in
    tt
