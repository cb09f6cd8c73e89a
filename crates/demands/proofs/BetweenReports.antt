-- What came between two of our own reports. Assumes nothing.
use mathlib.Core.Path.{◌≡◌, refl, sym, ◌∙◌, ap}
use mathlib.Core.Bool.{Bool, true, false, cond}
use native.Mathlib.Omega.{arith}
use lib.Count.{ones, ones_in}
use lib.IntN.{ℤ, pos, neg_ℤ, ◌+ℤ◌, ◌-ℤ◌, +ℤ_assoc, neg_ℤ-+ℤ, +ℤ-neg_ℤ_cancel, -ℤ-+ℤ_cancel}
use lib.Signed.{le_z_yes, lt_z_yes}
use Rattle.numbers.specs.Since.{since, signed}
use Rattle.numbers.proofs.Integers.{exchange}
use Rattle.source.specs.declared.Source.{Source}
use Rattle.source.specs.Places.{pack, place, marks, places, moved, added}
use Rattle.source.specs.Record.{distinct, fresh, has_counted, sound, lost}
use Rattle.source.specs.Distances.{reach_of}
use Rattle.source.specs.Between.{expected}
use Rattle.source.proofs.Facts.{fresh_none}
use Rattle.source.specs.Arrivals.{counted, first, ahead, behind, distance, arrival}
use Rattle.report.specs.Carried.{highest_of, counts_of}
use Rattle.between.specs.Differences.{signals_of, expecting_of}
use Rattle.between.specs.Theorems.{Carry}
use Rattle.between.proofs.Exact.{signals_exact, between_exact, given_in_limits}
use Rattle.demands.specs.BetweenReports.{truth_of, BetweenReports, ExpectedInAll, ExpectedBetween, second, last, BetweenC1}

-- a report's counters carry those of its record
carry : (s : Source) → Carry (counts_of s) (truth_of s)
unfolding counts_of
carry s = record { ce = refl; lost = refl }

pub between_reports : BetweenReports
between_reports t s sender told ahead =
    between_exact (truth_of t) (truth_of s) (counts_of t) (counts_of s) (highest_of t) (highest_of s) (carry t) (carry s) refl refl told ahead

-- the same number more on both sides
shifted : (x y k : ℤ) → (x +ℤ k) -ℤ (y +ℤ k) ≡ x -ℤ y
shifted x y k =
    ap (λ (z : ℤ). x +ℤ k +ℤ z) (neg_ℤ-+ℤ y k) ∙ sym (+ℤ_assoc (x +ℤ k) (neg_ℤ y) (neg_ℤ k))
    ∙ ap (λ (z : ℤ). z -ℤ k) (exchange x k (neg_ℤ y)) ∙ +ℤ-neg_ℤ_cancel (x -ℤ y) k

expected_is_lem : (s : Source) → fresh s ≡ false → expected s ≡ s.highest.0 -ℤ s.base.0 +ℤ pos 1
unfolding expected
expected_is_lem s e = ap (λ (b : Bool). cond b (pos 0) (s.highest.0 -ℤ s.base.0 +ℤ pos 1)) e

pub expected_in_all : ExpectedInAll
unfolding expected lost
expected_in_all s = go (fresh s) refl
  where
    all : ℤ
    all = s.highest.0 -ℤ s.base.0 +ℤ pos 1

    go : (b : Bool) → fresh s ≡ b → cond b (pos 0) all ≡ cond b (pos 0) (all -ℤ pos (distinct s)) +ℤ pos (distinct s)
    go true f = let none : distinct s ≡ 0 = omega (arith, fresh_none s f) in rw none
    go false f = sym (-ℤ-+ℤ_cancel all (pos (distinct s)))

pub expected_between : ExpectedBetween
expected_between t s q p same =
    let b = s.base.0 in
    sym
    ((λ i. (expected_is_lem t q ∙ ap (λ (z : ℤ). t.highest.0 -ℤ z +ℤ pos 1) (ap (λ e. e.0) same)) i -ℤ expected_is_lem s p i)
    ∙ shifted (t.highest.0 -ℤ b) (s.highest.0 -ℤ b) (pos 1)
    ∙ shifted t.highest.0 s.highest.0 (neg_ℤ b))

pub between_c1 : BetweenC1
unfolding ones ones_in since signed pack place marks places moved added fresh has_counted sound lost reach_of counted first ahead behind distance arrival counts_of signals_of expecting_of
between_c1 =
    record {
      counted = (refl, refl, refl);
      told = record { some_marked = le_z_yes tt; few_marked = lt_z_yes tt; some_lost = le_z_yes tt; few_lost = lt_z_yes tt };
      ahead = record { some = le_z_yes tt; few = lt_z_yes tt };
      counts = refl;
    }

-- each theorem at C1's reports, those of `between` too
used : Unit {0}
used =
    let c = between_c1 in
    let reports = between_reports last second 9 c.told c.ahead in
    let expected = expected_between last second c.counted.0 c.counted.1 c.counted.2 in
    let signals = signals_exact (truth_of last) (truth_of second) (counts_of last) (counts_of second) (carry last) (carry second) c.told in
    let exact = between_exact (truth_of last) (truth_of second) (counts_of last) (counts_of second) (highest_of last) (highest_of second) (carry last) (carry second) refl refl c.told c.ahead in
    let limits = given_in_limits (counts_of last) (counts_of second) (highest_of last) (highest_of second) (record { lost = pos 2; marked = 2; expected = 4 }) c.counts in
    tt
