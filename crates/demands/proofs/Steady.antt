-- What is known of the arrivals of a steady list so far, newest first, and that their count is a sound record. Assumes nothing.
use mathlib.Core.Path.{◌≡◌, refl, ap, ◌∙◌, subst}
use mathlib.Core.Bool.{Bool, true, not}
use mathlib.Core.List.{List, [], ◌∷◌}
use Prim.Native.Nat.{ℕ, ◌+◌, ◌-◌, ◌*◌, ◌^◌, ◌≤◌, ◌<◌}
use native.Mathlib.Omega.{arith}
use lib.Dec.{T, leb→le}
use lib.IntN.{ℤ, pos, negsuc, ◌-ℤ◌}
use lib.ListN.{length}
use lib.Signed.{◌≤ℤ◌}
use Rattle.answers.proofs.Conditions.{is_true}
use Rattle.numbers.proofs.Integers.{minus_zero}
use Rattle.source.specs.declared.Source.{Source}
use Rattle.source.specs.Places.{bit, marks}
use Rattle.source.specs.Record as Record
use Rattle.source.specs.Record.{sound}
use Rattle.source.proofs.Rows.{marked_ext, pack_lt, marks_history, places_history}
use Rattle.source.proofs.Facts.{Facts, facts_count, has_counted_sound}
use Rattle.demands.specs.Calls.{TruePacket}
use Rattle.demands.specs.Count.{greatest, greatest_in, mem, distinct_of, recent, count_from}
use Rattle.demands.proofs.Numbers.{Near, above, below}
use Rattle.demands.proofs.Members.{Marks, greatest_in_lem, top_above, top_below, new_above, distinct_le, distinct_some, marked_distinct, tally_sum}

-- ---- the arrivals so far, newest first

pub record Known (base : ℤ) (p : TruePacket) (ps : List TruePacket) : Type 0 where
  pub low : ℕ
  pub high : ℕ
  pub bottom : base ≡ pos low
  pub top : greatest p.number ps ≡ pos high
  pub wire : low ≤ 65535
  pub ordered : low ≤ high
  pub spread : high - low ≤ 2999 * (distinct_of (p ∷ ps) - 1)
  pub fit : Marks (p ∷ ps)

-- a number that fits 16 bits
pub in_wire : (z : ℤ) → pos 0 ≤ℤ z → z ≤ℤ pos 65535 → (n : ℕ) × (z ≡ pos n) × (n ≤ 65535)
in_wire (pos n) l u = (n, refl, leb→le n 65535 u.le)
in_wire (negsuc n) l u = absurd l.le

pub known_first : (p : TruePacket) → pos 0 ≤ℤ p.number → p.number ≤ℤ pos 65535 → p.mark ≤ 3 → Known p.number p []
known_first p l u m =
    let w = in_wire p.number l u in
    record { low = w.0; high = w.0; bottom = w.1; top = w.1; wire = w.2; ordered = omega arith; spread = omega arith; fit = (m, tt) }

module _ {base : ℤ} (p q : TruePacket) (qs : List TruePacket) (k : Known base q qs) (m : p.mark ≤ 3) where
  pub known_next : Near k.high p.number → Known base p (q ∷ qs)
  known_next (above d l u e) =
      let new : bit (not (mem p.number (q ∷ qs))) ≡ 1 = ap (λ (t : Bool). bit (not t)) (new_above k.high p q qs k.top d l e) in
      record {
        low = k.low;
        high = k.high + d;
        bottom = k.bottom;
        top = top_above k.high p q qs k.top d e;
        wire = k.wire;
        ordered = omega (arith, k.ordered);
        spread = omega (arith, k.spread, k.ordered, distinct_some q qs);
        fit = (m, k.fit);
      }
  known_next (below j u e) = record {
    low = k.low;
    high = k.high;
    bottom = k.bottom;
    top = top_below k.high p q qs k.top j e;
    wire = k.wire;
    ordered = k.ordered;
    spread = omega (arith, k.spread);
    fit = (m, k.fit);
  }

-- ---- their count

module _ (base : ℤ) (ps : List TruePacket) where
  pub count_arrivals : Marks ps → Record.arrivals (count_from base ps) ≡ length ps
  unfolding count_from
  count_arrivals m = tally_sum ps m

  pub count_distinct : Marks ps → Record.distinct (count_from base ps) ≡ distinct_of ps
  unfolding count_from
  count_distinct m = omega (arith, tally_sum ps m, distinct_le ps)

  pub count_highest : (count_from base ps).highest.0 ≡ greatest_in ps
  unfolding count_from
  count_highest = refl

  -- place k of the history stands for the number k below the highest
  pub count_marks : (k : ℕ) → k < 100 → marks (count_from base ps).history k ≡ recent ps k
  unfolding count_from
  count_marks k h = marks_history (recent ps) k h

-- it is a record that has counted
module _ {base : ℤ} {p : TruePacket} {ps : List TruePacket} (k : Known base p ps) (few : length (p ∷ ps) ≤ 2 ^ 48) where
  pub count_facts : Facts (count_from base (p ∷ ps))
  unfolding count_from
  count_facts =
      let all : List TruePacket = p ∷ ps in
      let s : Source = count_from base all in
      let total : Record.arrivals s ≡ length all = count_arrivals base all k.fit in
      let different : Record.distinct s ≡ distinct_of all = count_distinct base all k.fit in
      let at : (i : ℕ) → recent all i ≡ mem (pos k.high -ℤ pos i) all = λ i. ap (λ (z : ℤ). mem (z -ℤ pos i) all) k.top in
      record {
        low = k.low;
        high = k.high;
        base = k.bottom;
        highest = k.top;
        wire = k.wire;
        ordered = k.ordered;
        some = omega arith;
        most = omega arith;
        fewer = omega (arith, distinct_some p ps, distinct_le all);
        top = marks_history (recent all) 0 (omega arith) ∙ at 0 ∙ ap (λ (z : ℤ). mem z all) (minus_zero k.high)
            ∙ is_true (mem (pos k.high) all) (subst (λ (z : ℤ). T (mem z all)) k.top (greatest_in_lem p ps));
        fits = pack_lt 36 (λ i. recent all (64 + i));
        few =
            let e = marked_ext 100 (recent all) (λ i. mem (pos k.high -ℤ pos i) all) (λ i h. at i) in
            omega (arith, places_history (recent all), e, marked_distinct k.high 100 all);
        spread = omega (arith, k.spread);
      }

  pub count_sound : sound (count_from base (p ∷ ps)) ≡ true
  count_sound = has_counted_sound (count_from base (p ∷ ps)) (facts_count (count_from base (p ∷ ps)) count_facts)
