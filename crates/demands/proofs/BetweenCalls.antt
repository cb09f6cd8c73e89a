-- Two reports tell of the calls between them. Assumes nothing.
use mathlib.Core.Path.{◌≡◌, sym, ap, ◌∙◌}
use Prim.Native.Nat.{ℕ}
use native.Mathlib.Omega.{arith}
use lib.Dec.{le→leb, lt→ltb}
use lib.IntN.{ℤ, pos, ◌-ℤ◌}
use lib.Signed.{le_z_yes, lt_z_yes}
use Rattle.numbers.proofs.Integers.{minus_pos}
use Rattle.source.specs.Between.{came, with_mark, is_new, expected}
use Rattle.source.proofs.Between.{grows_by_between}
use Rattle.rtcp.specs.declared.Profile.{Profile}
use Rattle.between.specs.Theorems.{Told, Ahead}
use Rattle.demands.specs.BetweenReports.{truth_of}
use Rattle.demands.specs.BetweenCalls.{feedback_in, ReportsTellCalls}
use Rattle.demands.specs.WitnessesBetween.{onward, earlier, later}
use Rattle.demands.proofs.ReadBack.{feedback_reads_back}
use Rattle.demands.proofs.BetweenReports.{between_reports}
use Rattle.demands.proofs.WitnessesBetween.{met_between}

same_number : {m n : ℕ} → pos m ≡ pos n → m ≡ n
same_number e = cc

pub reports_tell_calls : ReportsTellCalls
reports_tell_calls s t ps sender media profile hs hm l some few =
    let g = grows_by_between s t ps l in
    let marked : ℕ = came (with_mark 3) s ps in
    let ce : pos t.ce -ℤ pos s.ce ≡ pos marked = minus_pos t.ce s.ce (omega (arith, g.ce)) ∙ ap pos (omega (arith, g.ce)) in
    let told : Told (truth_of t) (truth_of s) = record {
      some_marked = rw ce (le_z_yes (le→leb 0 marked (omega arith)));
      few_marked = rw ce (lt_z_yes (lt→ltb marked 65536 few.few_marked));
      some_lost = rw g.lost few.some_lost;
      few_lost = rw g.lost few.few_lost;
    } in
    let ahead : Ahead (truth_of t) (truth_of s) = record { some = rw (g.highest some) at few.some_expected; few = rw (g.highest some) at few.few_expected } in
    let r = between_reports t s sender told ahead in
    let expected_is : pos r.counts.expected ≡ expected t -ℤ expected s = r.expected_is ∙ sym (g.highest some) in
    let same : pos r.counts.marked ≡ pos marked = r.signals.marked_is ∙ ce in
    record {
      earlier = ap feedback_in (feedback_reads_back s sender sender media profile hs hm);
      later = ap feedback_in (feedback_reads_back t sender sender media profile hs hm);
      between = record {
        counts = r.counts;
        given = r.given;
        marked = same_number same;
        expected_is = expected_is;
        lost_is = r.signals.lost_is ∙ g.lost ∙ ap (λ (z : ℤ). z -ℤ pos (came is_new s ps)) (sym expected_is);
      };
    }

-- C1's record, and five calls more
used : Unit {0}
used =
    let m = met_between in
    let reports = reports_tell_calls earlier later onward 9 1 Profile.Compound (omega arith) (omega arith) m.leads (omega arith) m.tellable in
    tt
