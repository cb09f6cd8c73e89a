-- A sound record stays sound. Assumes nothing.
use mathlib.Core.Path.{◌≡◌, refl, sym, ap, ◌∙◌}
use mathlib.Core.Bool.{Bool, true, false, not, or-true}
use Prim.Native.Nat.{ℕ, zero, suc, ◌+◌, ◌-◌, ◌*◌, ◌^◌, ◌≤◌, ◌<◌}
use native.Mathlib.Omega.{arith}
use lib.Dec.{eqb, eqb→eq}
use lib.IntN.{ℤ, pos, ◌+ℤ◌, ◌-ℤ◌}
use Rattle.numbers.proofs.Integers.{modulo_lt}
use Rattle.source.specs.declared.History.{History}
use Rattle.format.specs.declared.Wire.{Wire}
use Rattle.source.specs.declared.Extended.{Extended}
use Rattle.source.specs.declared.Source.{Source}
use Rattle.source.specs.declared.Arrival.{Arrival}
use Rattle.source.specs.declared.distances.Reach.{Reach}
use Rattle.source.specs.Places.{bit, history, marks, moved, added}
use Rattle.source.specs.Distances.{most_ahead}
use Rattle.source.specs.Record.{arrivals, fresh_record, has_counted, sound}
use Rattle.source.specs.Arrivals.{counted, first, ahead, behind, distance, next, remembering, arrival, after}
use Rattle.source.specs.Theorems.{SoundStays}
use Rattle.source.proofs.Rows.{bit_le, marked, marked_one, marked_moved, marked_added, pack_lt, marks_history, places_history, places_least}
use Rattle.source.proofs.Facts.{Facts, facts, facts_count, has_counted_sound, some_has_counted}
use Rattle.source.proofs.Answers.{Stands, Answered, malformed, limits, full, was_first, was_ahead, was_behind, restarted, jump, answered}
use Rattle.source.proofs.Reached.{Within, within}

-- a mark of at most 3 is counted once
pub one_mark : (m : ℕ) → m ≤ 3 → bit (eqb m 0) + bit (eqb m 1) + bit (eqb m 2) + bit (eqb m 3) ≡ 1
one_mark zero h = refl
one_mark (suc zero) h = refl
one_mark (suc (suc zero)) h = refl
one_mark (suc (suc (suc zero))) h = refl
one_mark (suc (suc (suc (suc m)))) h = absurd (omega arith)

pub bit_not : (b : Bool) → bit b + bit (not b) ≡ 1
bit_not true = refl
bit_not false = refl

-- ---- the facts of the next record

module _ (s : Source) (mark : ℕ) (m : mark ≤ 3) where
  pub counted_arrivals : (b h : Extended) (n : ℕ) (past : History) → arrivals (counted s mark b h n past) ≡ arrivals s + 1
  unfolding counted
  counted_arrivals b h n past = omega (arith, one_mark mark m)

  -- the record that an accepted arrival leaves has counted
  counted_facts : (low high : ℕ) (n : ℕ) (row : ℕ → Bool) → low ≤ 65535 → low ≤ high → arrivals s < 2 ^ 48 → n ≤ arrivals s → row 0 ≡ true
      → marked 100 row ≤ arrivals s + 1 - n → high - low ≤ most_ahead * (arrivals s + 1 - n - 1) → {b h : Extended} → b.0 ≡ pos low → h.0 ≡ pos high
      → Facts (counted s mark b h n (history row))
  unfolding counted
  counted_facts low high n row w o l d t p q {b} {h} eb eh =
      let total : arrivals (counted s mark b h n (history row)) ≡ arrivals s + 1 = counted_arrivals b h n (history row) in
      record {
        low = low;
        high = high;
        base = eb;
        highest = eh;
        wire = w;
        ordered = o;
        some = omega arith;
        most = omega arith;
        fewer = omega arith;
        top = marks_history row 0 (omega arith) ∙ t;
        fits = pack_lt 36 (λ k. row (64 + k));
        few = omega (arith, places_history row);
        spread = omega arith;
      }

  pub first_facts : (wire : Wire) → wire.0 < 65536 → arrivals s ≡ 0 → Facts (first s wire mark)
  unfolding first
  first_facts wire w z =
      counted_facts wire.0 wire.0 0 (λ k. eqb k 0) (omega arith) (omega arith) (omega arith) (omega arith) refl
      (let one = marked_one 100 (λ k. eqb k 0) (λ i k u v. eqb→eq i 0 u ∙ sym (eqb→eq k 0 v)) in omega arith) (omega arith) refl refl

  module _ (f : Facts s) (l : arrivals s < 2 ^ 48) where
    ahead_facts : (d : ℕ) → 1 ≤ d → d ≤ most_ahead → Facts (ahead s d mark)
    unfolding ahead added
    ahead_facts d p q =
        let row : ℕ → Bool = moved d (marks s.history) in
        counted_facts f.low (f.high + d) s.duplicates (added 0 row) f.wire (omega (arith, f.ordered)) l (omega (arith, f.fewer)) refl
        (omega (arith, marked_added 100 0 row, bit_le (not (row 0)), marked_moved 100 d (marks s.history), places_least s.history, f.few, f.fewer))
        (omega (arith, f.spread, f.fewer, f.ordered)) f.base (ap (λ (z : ℤ). z +ℤ pos d) f.highest)

    behind_facts : (k : ℕ) → Facts (behind s k mark)
    unfolding behind added
    behind_facts k =
        let row : ℕ → Bool = marks s.history in
        counted_facts f.low f.high (s.duplicates + bit (row k)) (added k row) f.wire f.ordered l (omega (arith, f.fewer, bit_le (row k)))
        (rw f.top (or-true (eqb 0 k)))
        (omega (arith, marked_added 100 k row, bit_not (row k), places_least s.history, f.few, f.fewer))
        (omega (arith, f.spread, bit_le (row k), f.fewer)) f.base f.highest

-- ---- the theorem

pub distance_lt : {d : ℕ} (h : Extended) (wire : Wire) → d ≡ distance h wire → d < 65536
unfolding distance
distance_lt h wire e = rw e (modulo_lt 65536 (omega arith) (pos wire.0 -ℤ h.0))

sound_of : (s : Source) → Facts s → sound s ≡ true
sound_of s f = has_counted_sound s (facts_count s f)

-- what is remembered is not judged in a record that has counted
pub remembering_sound : (s : Source) (number : Wire) → has_counted s ≡ true → sound (remembering s number) ≡ true
unfolding remembering has_counted
remembering_sound s number e = has_counted_sound (remembering s number) e

pub sound_stays : SoundStays
sound_stays s wire mark w e = go (arrival s wire mark) (answered s wire mark)
  where
    has : {r : Reach} → Stands s wire mark r → has_counted s ≡ true
    has t = some_has_counted s e t.some

    near : {r : Reach} → Stands s wire mark r → Within r
    near t = within (distance s.highest wire) (distance_lt s.highest wire refl) (sym t.reached)

    go : (a : Arrival) → Answered s wire mark a → sound (after a) ≡ true
    go a malformed = e
    go a limits = e
    go a full = e
    go a (was_first c z) = sound_of (first s wire mark) (first_facts s mark c.mark_fits wire w z)
    go a (was_ahead d t) = sound_of (ahead s d mark) (ahead_facts s mark t.counts.mark_fits (facts s (has t)) t.counts.room d (near t).0 (near t).1)
    go a (was_behind k t) = sound_of (behind s k mark) (behind_facts s mark t.counts.mark_fits (facts s (has t)) t.counts.room k)
    go a (restarted t) = sound_of (first fresh_record wire mark) (first_facts fresh_record mark t.counts.mark_fits wire w refl)
    go a (jump t) = remembering_sound s (next wire) (has t)
