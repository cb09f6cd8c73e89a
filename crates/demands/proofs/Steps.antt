-- One arrival more: the call brings the count to the count of the longer list. Lists are newest first. Assumes nothing.
use Rattle.std.specs.Prelude.{None}
use mathlib.Core.Path.{◌≡◌, refl, sym, ap, ap₂, ◌∙◌}
use mathlib.Core.Bool.{Bool, true, false, not, ◌&&◌, ◌||◌, or-false}
use mathlib.Core.List.{List, [], ◌∷◌}
use Prim.Native.Nat.{ℕ, zero, suc, ◌+◌, ◌-◌, ◌^◌, ◌≤◌, ◌<◌}
use native.Mathlib.Decide.{dec_le}
use native.Mathlib.Nat.{mod-eq_of_lt}
use native.Mathlib.Omega.{arith}
use borrow.Author.Tests.{le-leb, lt-leb}
use lib.Dec.{leb, eqb}
use lib.IntN.{ℤ, pos, ◌+ℤ◌, ◌-ℤ◌}
use lib.ListN.{length}
use lib.Signed.{◌≤ℤ◌}
use Rattle.numbers.specs.Integers.{eq_z}
use Rattle.numbers.proofs.Integers.{eq_z_minus, minus_zero, minus_pos, minus_shift}
use Rattle.source.specs.declared.Source.{Source}
use Rattle.source.specs.Distances.{reach_of}
use Rattle.source.specs.declared.Arrival.{Arrival}
use Rattle.source.specs.declared.Arrival.TheVariants.{Accepted}
use Rattle.source.specs.declared.distances.Reach.{Reach}
use Rattle.source.specs.Places.{bit, pack, history, marks, moved, added}
use Rattle.source.specs.Record as Record
use Rattle.source.specs.Record.{fresh_record}
use Rattle.source.specs.Arrivals.{extended, counted, first, ahead, behind, distance, later_by}
use Rattle.source.proofs.Facts.{fresh_sound}
use Rattle.source.proofs.Rows.{history_ext}
use Rattle.source.proofs.Answers.{arrival_first, arrival_later}
use Rattle.source.proofs.Reached.{reach_ahead, reach_level, reach_behind}
use Rattle.demands.specs.Calls.{TruePacket, wire_of, call}
use Rattle.demands.specs.Count.{greatest, greatest_in, mem, distinct_of, tally, recent, duplicates_of, count_from}
use Rattle.demands.proofs.Numbers.{Near, above, below, distance_above, distance_below, distance_level}
use Rattle.demands.proofs.Members.{top_above, top_below, new_above, above_out, distinct_le}
use Rattle.demands.proofs.Steady.{Known, in_wire, count_arrivals, count_highest, count_marks, count_sound}

-- nothing counted is the fresh record
pub count_none : (base : ℤ) → base ≡ pos 0 → count_from base [] ≡ fresh_record
unfolding count_from pack
count_none base e = rw e

-- the next record is the count of the longer list, where its highest, duplicates and history are that list's
next_is : (old base h : ℤ) (p : TruePacket) (ps : List TruePacket) (n : ℕ) (row : ℕ → Bool)
    → h ≡ greatest_in (p ∷ ps) → n ≡ duplicates_of (p ∷ ps) → ((k : ℕ) → k < 100 → row k ≡ recent (p ∷ ps) k)
    → counted (count_from old ps) p.mark (extended base) (extended h) n (history row) ≡ count_from base (p ∷ ps)
unfolding counted count_from
next_is old base h p ps n row eh en er = λ i. record {
  base = extended base;
  highest = extended (eh i);
  notect = tally 0 (p ∷ ps);
  ect1 = tally 1 (p ∷ ps);
  ect0 = tally 2 (p ∷ ps);
  ce = tally 3 (p ∷ ps);
  duplicates = en i;
  history = history_ext row (recent (p ∷ ps)) er i;
  remembered = None;
}

-- ---- the first arrival

pub call_first : (p : TruePacket) → pos 0 ≤ℤ p.number → p.number ≤ℤ pos 65535 → p.mark ≤ 3 → call fresh_record p ≡ Accepted (count_from p.number (p ∷ []))
unfolding first
call_first p l u m =
    arrival_first fresh_record (wire_of p.number) p.mark fresh_sound m refl
    ∙ ap Accepted (ap (λ (s : Source). first s (wire_of p.number) p.mark) (sym (count_none (pos 0) refl)) ∙ begin (in_wire p.number l u))
  where
    begin : (n : ℕ) × (p.number ≡ pos n) × (n ≤ 65535) → first (count_from (pos 0) []) (wire_of p.number) p.mark ≡ count_from p.number (p ∷ [])
    begin v =
        let seen : pos (wire_of p.number).0 ≡ p.number = ap (λ (z : ℤ). pos (wire_of z).0) v.1 ∙ ap pos (mod-eq_of_lt (omega (arith, v.2))) ∙ sym v.1 in
        ap (λ (z : ℤ). counted (count_from (pos 0) []) p.mark (extended z) (extended z) 0 (history (λ k. eqb k 0))) seen
        ∙ next_is (pos 0) p.number p.number p [] 0 (λ k. eqb k 0) refl refl (λ k h.
        sym (or-false (eq_z (p.number -ℤ pos k) p.number)
        ∙ ap₂ (λ (x y : ℤ). eq_z (x -ℤ pos k) y) v.1 (v.1 ∙ sym (minus_zero v.0)) ∙ eq_z_minus v.0 k 0))

-- ---- a later arrival

module _ (base : ℤ) (p q : TruePacket) (qs : List TruePacket) (n : ℕ) (top : greatest q.number qs ≡ pos n) where
  abbrev s : Source
  s = count_from base (q ∷ qs)

  -- place k of the history, by the number that it stands for
  place_is : (k : ℕ) → k < 100 → marks s.history k ≡ mem (pos n -ℤ pos k) (q ∷ qs)
  place_is k h = count_marks base (q ∷ qs) k h ∙ ap (λ (z : ℤ). mem (z -ℤ pos k) (q ∷ qs)) top

  moved_is : (d : ℕ) → 1 ≤ d → p.number ≡ pos (n + d) → (k : ℕ) → k < 100
      → added 0 (moved d (marks s.history)) k ≡ mem (pos (n + d) -ℤ pos k) (p ∷ (q ∷ qs))
  unfolding moved added
  moved_is d l e k h = ap₂ ◌||◌ newest (older (dec_le d k))
    where
      newest : eqb k 0 ≡ eq_z (pos (n + d) -ℤ pos k) p.number
      newest = sym (ap (λ (z : ℤ). eq_z (pos (n + d) -ℤ pos k) z) (e ∙ sym (minus_zero (n + d))) ∙ eq_z_minus (n + d) k 0)

      older : Dec (d ≤ k) → (leb d k && marks s.history (k - d)) ≡ mem (pos (n + d) -ℤ pos k) (q ∷ qs)
      older (yes g) = rw (le-leb d k g) (place_is (k - d) (omega arith) ∙ ap (λ (z : ℤ). mem z (q ∷ qs)) (sym (minus_shift n d k g)))
      older (no g) = rw (lt-leb d k (omega arith))
          (sym (ap (λ (z : ℤ). mem z (q ∷ qs)) (minus_pos (n + d) k (omega arith)) ∙ above_out n (n + d - k) q qs top (omega arith)))

  added_is : (j : ℕ) → p.number ≡ pos n -ℤ pos j → (k : ℕ) → k < 100
      → added j (marks s.history) k ≡ mem (pos n -ℤ pos k) (p ∷ (q ∷ qs))
  unfolding added
  added_is j e k h = ap₂ ◌||◌ (sym (ap (λ (z : ℤ). eq_z (pos n -ℤ pos k) z) e ∙ eq_z_minus n k j)) (place_is k h)

  ahead_is : (d : ℕ) → 1 ≤ d → p.number ≡ pos (n + d) → ahead s d p.mark ≡ count_from base (p ∷ (q ∷ qs))
  unfolding ahead count_from
  ahead_is d l e = next_is base base (greatest q.number qs +ℤ pos d) p (q ∷ qs) (duplicates_of (q ∷ qs)) (added 0 (moved d (marks s.history)))
      (ap (λ (z : ℤ). z +ℤ pos d) top ∙ sym high) same
      (λ k h. moved_is d l e k h ∙ ap (λ (z : ℤ). mem (z -ℤ pos k) (p ∷ (q ∷ qs))) (sym high))
    where
      high : greatest p.number (q ∷ qs) ≡ pos (n + d)
      high = top_above n p q qs top d e

      same : duplicates_of (q ∷ qs) ≡ duplicates_of (p ∷ (q ∷ qs))
      same = let new : bit (not (mem p.number (q ∷ qs))) ≡ 1 = ap (λ (t : Bool). bit (not t)) (new_above n p q qs top d l e) in omega arith

  behind_is : (j : ℕ) → j < 100 → p.number ≡ pos n -ℤ pos j → behind s j p.mark ≡ count_from base (p ∷ (q ∷ qs))
  unfolding behind count_from
  behind_is j h e = next_is base base (greatest q.number qs) p (q ∷ qs) (duplicates_of (q ∷ qs) + bit (marks s.history j)) (added j (marks s.history))
      (top ∙ sym high) more
      (λ k l. added_is j e k l ∙ ap (λ (z : ℤ). mem (z -ℤ pos k) (p ∷ (q ∷ qs))) (sym high))
    where
      high : greatest p.number (q ∷ qs) ≡ pos n
      high = top_below n p q qs top j e

      again : (t : Bool) (l d : ℕ) → d ≤ l → l - d + bit t ≡ suc l - (d + bit (not t))
      again true l d g = omega arith
      again false l d g = omega arith

      more : duplicates_of (q ∷ qs) + bit (marks s.history j) ≡ duplicates_of (p ∷ (q ∷ qs))
      more = ap (λ (t : Bool). duplicates_of (q ∷ qs) + bit t) (place_is j h ∙ ap (λ (z : ℤ). mem z (q ∷ qs)) (sym e))
          ∙ again (mem p.number (q ∷ qs)) (length (q ∷ qs)) (distinct_of (q ∷ qs)) (distinct_le (q ∷ qs))

-- the call on the count of the arrivals so far
pub call_later : {base : ℤ} (p q : TruePacket) (qs : List TruePacket) (k : Known base q qs) → p.mark ≤ 3 → length (p ∷ (q ∷ qs)) ≤ 2 ^ 48 → Near k.high p.number
    → call (count_from base (q ∷ qs)) p ≡ Accepted (count_from base (p ∷ (q ∷ qs)))
call_later {base} p q qs k m few near = go near
  where
    state : Source
    state = count_from base (q ∷ qs)

    many : Record.arrivals state ≡ length (q ∷ qs)
    many = count_arrivals base (q ∷ qs) k.fit

    -- the call goes by the distance
    by_reach : Reach → Arrival
    by_reach = later_by state (wire_of p.number) p.mark

    by : (z : ℤ) (d : ℕ) → p.number ≡ z → distance (extended (pos k.high)) (wire_of z) ≡ d → call state p ≡ by_reach (reach_of d)
    by z d e f =
        arrival_later state (wire_of p.number) p.mark (count_sound k (omega arith)) m (omega (arith, many)) (omega (arith, many))
        ∙ ap (λ (i : ℕ). by_reach (reach_of i)) (ap₂ (λ (x y : ℤ). distance (extended x) (wire_of y)) (count_highest base (q ∷ qs) ∙ k.top) e ∙ f)

    go : Near k.high p.number → call state p ≡ Accepted (count_from base (p ∷ (q ∷ qs)))
    go (above d l u e) = by (pos (k.high + d)) d e (distance_above k.high d u) ∙ ap by_reach (reach_ahead d l u)
        ∙ ap Accepted (ahead_is base p q qs k.high k.top d l e)
    go (below zero u e) = by (pos k.high) 0 (e ∙ minus_zero k.high) (distance_level k.high) ∙ ap by_reach reach_level
        ∙ ap Accepted (behind_is base p q qs k.high k.top 0 u e)
    go (below (suc j) u e) = by (pos k.high -ℤ pos (suc j)) (65536 - suc j) e (distance_below k.high j u)
        ∙ ap by_reach (reach_behind (65536 - suc j) (omega arith) (omega arith))
        ∙ ap (λ (i : ℕ). Accepted (behind state i p.mark)) (omega arith)
        ∙ ap Accepted (behind_is base p q qs k.high k.top (suc j) u e)
