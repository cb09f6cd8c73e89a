-- Demand 3. Assumes nothing.
use mathlib.Core.Path.{◌≡◌, refl, sym, ap, ap₂, ◌∙◌}
use mathlib.Core.Bool.{true}
use mathlib.Core.List.{List, [], ◌∷◌}
use Prim.Native.Nat.{ℕ, ◌%◌, ◌^◌}
use native.Mathlib.Omega.{arith}
use borrow.Author.Tests.{ne_eqb}
use lib.IntN.{ℤ, pos, ◌+ℤ◌, ◌-ℤ◌}
use Rattle.numbers.specs.Integers.{modulo}
use Rattle.source.specs.declared.Source.{Source}
use Rattle.source.specs.Record as Record
use Rattle.source.specs.Record.{fresh_record, sound, lost}
use Rattle.source.proofs.Facts.{fresh_is, fresh_sound}
use Rattle.format.specs.declared.Counts.{Counts}
use Rattle.report.specs.Carried.{counts_of}
use Rattle.report.specs.Reports.{feedback_of, summary_of}
use Rattle.report.proofs.Faults.{fault_none}
use Rattle.table.specs.Lines.{row_bytes}
use Rattle.table.proofs.Faults.{fault_none as row_accepted}
use Rattle.demands.specs.Calls.{TruePacket, arrivals, run}
use Rattle.demands.specs.Count.{base_of, greatest_in, duplicates_of, tally, lost_of, count_from, count, counts_in}
use Rattle.demands.specs.TableRow.{count_row}
use Rattle.demands.specs.Demand3.{Demand3}
use Rattle.demands.proofs.Members.{Marks}
use Rattle.demands.proofs.Steady.{count_arrivals, count_distinct, count_highest}
use Rattle.demands.proofs.Steps.{count_none}
use Rattle.demands.proofs.Order.{same_perm, perm_count}
use Rattle.demands.proofs.Runs.{arrivals_marks, run_sound, run_counted}

-- ---- what a report and a row carry of the count

pub count_lost : (ps : List TruePacket) → Marks ps → sound (count ps) ≡ true → lost (count ps) ≡ lost_of ps
unfolding lost count_from Record.fresh
count_lost [] m good = ap lost (count_none (pos 0) refl)
count_lost (p ∷ ps) m good =
    rw (fresh_is (count (p ∷ ps)) good ∙ ne_eqb (Record.arrivals (count (p ∷ ps))) 0 (λ e. omega (arith, count_arrivals p.number (p ∷ ps) m)))
    (ap (λ (n : ℕ). greatest_in (p ∷ ps) -ℤ p.number +ℤ pos 1 -ℤ pos n) (count_distinct p.number (p ∷ ps) m))

module _ (ps : List TruePacket) (lost_is_lem : lost (count ps) ≡ lost_of ps) where
  pub count_counts : counts_of (count ps) ≡ counts_in ps
  unfolding counts_of counts_in count_from
  count_counts = λ i. record {
    ect0 = tally 2 ps % 2 ^ 32;
    ect1 = tally 1 ps % 2 ^ 32;
    ce = tally 3 ps % 2 ^ 16;
    notect = tally 0 ps % 2 ^ 16;
    lost = modulo (2 ^ 16) (lost_is_lem i);
    duplicates = duplicates_of ps % 2 ^ 16;
  }

  count_row_lem : (label : List ℕ) (ssrc jumped restarts : ℕ)
      → row_bytes label ssrc (record { source = count ps; jumped = jumped; restarts = restarts }) ≡ count_row label ssrc ps jumped restarts
  unfolding row_bytes count_from
  count_row_lem label ssrc jumped restarts = rw lost_is_lem

-- ---- the theorem

pub demand3 : Demand3
demand3 ps d =
    let r = run_counted ps d.steady d.few in
    let good : sound (run ps) ≡ true = run_sound fresh_record ps fresh_sound in
    let lost_is_lem = count_lost (arrivals ps) (arrivals_marks ps) (ap sound (sym r.state) ∙ good) in
    let top : (run ps).highest.0 ≡ greatest_in (arrivals ps) = ap (λ (s : Source). s.highest.0) r.state ∙ count_highest (base_of (arrivals ps)) (arrivals ps) in
    let counts : counts_of (run ps) ≡ counts_in (arrivals ps) = ap counts_of r.state ∙ count_counts (arrivals ps) lost_is_lem in
    record {
      answers = r.answers;
      state = r.state;
      sound = fault_none (run ps) good;
      feedback = λ sender media. ap₂ (λ (z : ℤ) (c : Counts). feedback_of sender media (modulo (2 ^ 32) z) c) top counts;
      summary = λ media. ap (summary_of media) counts;
      row = λ label ssrc jumped restarts ok few less. record {
        accepted = row_accepted label (record { source = run ps; jumped = jumped; restarts = restarts }) good ok few less;
        bytes = ap (λ (s : Source). row_bytes label ssrc (record { source = s; jumped = jumped; restarts = restarts })) r.state ∙ count_row_lem (arrivals ps) lost_is_lem label ssrc jumped restarts;
      };
      order = λ qs other same first.
          r.state ∙ perm_count (base_of (arrivals ps)) (same_perm (arrivals ps) (arrivals qs) same)
          ∙ ap (λ (b : ℤ). count_from b (arrivals qs)) first ∙ sym (run_counted qs other.steady other.few).state;
    }
