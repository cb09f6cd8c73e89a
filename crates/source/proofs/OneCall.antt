-- What one call adds to the counters. Assumes nothing.
use Rattle.std.specs.Prelude.{Option, Some}
use Rattle.format.specs.declared.Wire.{Wire}
use mathlib.Core.Path.{◌≡◌, refl, sym, ap, ◌∙◌}
use mathlib.Core.Bool.{Bool, true, false, cond, ◌&&◌}
use Prim.Native.Nat.{ℕ, zero, suc, ◌+◌, ◌-◌, ◌≤◌}
use native.Mathlib.Omega.{arith}
use borrow.Author.Tests.{eqb-true, eq-eqb}
use lib.Dec.{ltb}
use Rattle.answers.proofs.Conditions.{all_true}
use Rattle.answers.specs.declared.Refusal.{Refusal}
use Rattle.answers.specs.declared.Refusal.TheVariants as refusal
use Rattle.source.specs.declared.Extended.{Extended}
use Rattle.source.specs.declared.History.{History}
use Rattle.source.specs.declared.Source.{Source}
use Rattle.source.specs.declared.Arrival.{Arrival}
use Rattle.source.specs.declared.Arrival.TheVariants.{Accepted, Refused}
use Rattle.source.specs.declared.distances.Reach.{Reach}
use Rattle.source.specs.declared.distances.Reach.TheVariants as reach
use Rattle.source.specs.Places.{bit, place, marks}
use Rattle.source.specs.Distances.{reach_of}
use Rattle.source.specs.Record.{arrivals, distinct, zeros, fresh}
use Rattle.source.specs.Arrivals.{counted, first, ahead, behind, distance, next, remembering, arrival, after}
use Rattle.source.specs.Blocks.{Packet, restart}
use Rattle.source.specs.Between.{accepted, with_mark, seen, arrived_before, is_new}
use Rattle.source.proofs.Facts.{facts, fresh_is, some_has_counted}
use Rattle.source.proofs.Answers.{Stands, Answered, malformed, limits, full, was_first, was_ahead, was_behind, restarted, jump, answered}
use Rattle.source.proofs.Rows.{place_low, place_next}
use Rattle.source.proofs.Kept.{bit_not, counted_arrivals}

-- the answer to a call
abbrev pub call : Source → Packet → Arrival
call s p = arrival s p.wire p.mark

-- nothing has arrived before at a fresh record
place_zero : (k : ℕ) → place 0 k ≡ false
place_zero zero = place_low 0
place_zero (suc k) = place_next 0 k ∙ place_zero k

module _ (s : Source) (f : fresh s ≡ true) where
  no_duplicates : s.duplicates ≡ 0
  unfolding fresh
  no_duplicates = eqb-true s.duplicates 0 (all_true (zeros s) 6 f)

  none_seen : (r : Reach) → seen s.history r ≡ false
  unfolding fresh marks
  none_seen (reach.Ahead d) = refl
  none_seen (reach.Behind k) =
      rw (eqb-true s.history.recent 0 (all_true (zeros s) 7 f), eqb-true s.history.older 0 (all_true (zeros s) 8 f)) (go (ltb k 64))
    where
      go : (b : Bool) → cond b (place 0 k) (place 0 (k - 64)) ≡ false
      go true = place_zero k
      go false = place_zero (k - 64)
  none_seen reach.Jump = refl

module _ (s : Source) (p : Packet) where
  -- what the record grows by at an answer
  pub record Raised (a : Arrival) : Type 0 where
    pub notect : (after a).notect ≡ s.notect + bit (accepted a && with_mark 0 s p)
    pub ect1 : (after a).ect1 ≡ s.ect1 + bit (accepted a && with_mark 1 s p)
    pub ect0 : (after a).ect0 ≡ s.ect0 + bit (accepted a && with_mark 2 s p)
    pub ce : (after a).ce ≡ s.ce + bit (accepted a && with_mark 3 s p)
    pub duplicates : (after a).duplicates ≡ s.duplicates + bit (accepted a && arrived_before s p)
    pub distinct : distinct (after a) ≡ distinct s + bit (accepted a && is_new s p)
    pub base : 1 ≤ arrivals s → (after a).base ≡ s.base

  refused_raises : (refusal : Refusal) (remembered : Option Wire) → Raised (Refused refusal (record {
    base = s.base;
    highest = s.highest;
    notect = s.notect;
    ect1 = s.ect1;
    ect0 = s.ect0;
    ce = s.ce;
    duplicates = s.duplicates;
    history = s.history;
    remembered = remembered;
  }))
  refused_raises refusal remembered = record {
    notect = omega arith;
    ect1 = omega arith;
    ect0 = omega arith;
    ce = omega arith;
    duplicates = omega arith;
    distinct = omega arith;
    base = λ some. refl;
  }

  accepted_raises : (base highest : Extended) (n : ℕ) (past : History) (before : Bool) → arrived_before s p ≡ before → n ≡ s.duplicates + bit before
      → s.duplicates ≤ arrivals s → p.mark ≤ 3 → (1 ≤ arrivals s → base ≡ s.base) → Raised (Accepted (counted s p.mark base highest n past))
  unfolding counted
  accepted_raises base highest n past before e d l m b = record {
    notect = refl;
    ect1 = refl;
    ect0 = refl;
    ce = refl;
    duplicates = d ∙ ap (λ (c : Bool). s.duplicates + bit c) (sym e);
    distinct = rw e (omega (arith, counted_arrivals s p.mark m base highest n past, bit_not before));
    base = b;
  }

  pub raised : restart (call s p) ≡ 0 → Raised (call s p)
  unfolding first ahead behind remembering
  raised e = go (call s p) (answered s p.wire p.mark) e
    where
      fewer : {r : Reach} → Stands s p.wire p.mark r → s.duplicates ≤ arrivals s
      fewer t = omega (arith, (facts s (some_has_counted s t.counts.good t.some)).fewer)

      stands : {r : Reach} → Stands s p.wire p.mark r → arrived_before s p ≡ seen s.history r
      stands t = ap (seen s.history) t.reached

      go : (a : Arrival) → Answered s p.wire p.mark a → restart a ≡ 0 → Raised a
      go a malformed e = refused_raises refusal.Malformed s.remembered
      go a limits e = refused_raises refusal.Limits s.remembered
      go a full e = refused_raises refusal.Full s.remembered
      go a (was_first c z) e =
          let f = fresh_is s c.good ∙ eq-eqb (arrivals s) 0 z in
          let d = no_duplicates s f in
          accepted_raises _ _ 0 _ false (none_seen s f (reach_of (distance s.highest p.wire))) (omega arith) (omega arith) c.mark_fits (λ some. absurd (omega arith))
      go a (was_ahead d t) e = accepted_raises _ _ s.duplicates _ false (stands t) (omega arith) (fewer t) t.counts.mark_fits (λ some. refl)
      go a (was_behind k t) e = accepted_raises _ _ (s.duplicates + bit (marks s.history k)) _ (marks s.history k) (stands t) refl (fewer t) t.counts.mark_fits (λ some. refl)
      go a (restarted t) e = absurd (omega arith)
      go a (jump t) e = refused_raises refusal.Jump (Some (next p.wire))
