-- The packets of a part, counted in few words one after the other. Assumes nothing.
use Rattle.std.specs.Prelude.{Option, Some, None}
use Rattle.format.specs.declared.Wire.{Wire}
use mathlib.Core.Path.{◌≡◌, refl, sym, ap, subst, ◌∙◌}
use mathlib.Core.Bool.{Bool, true, false, cond, ◌&&◌}
use mathlib.Core.List.{List, [], ◌∷◌}
use Prim.Native.Nat.{ℕ, suc, ◌+◌, ◌^◌, ◌≤◌, ◌<◌}
use native.Mathlib.Nat.{add-zero, zero-div}
use native.Mathlib.Omega.{arith}
use borrow.Author.Tests.{leb-true, ltb-true, ne_eqb}
use lib.Dec.{eqb, leb, ltb}
use lib.IntN.{ℤ, pos, nat_abs}
use lib.ListN.{length}
use Rattle.answers.proofs.Conditions.{and_left, and_right}
use Rattle.source.specs.declared.Source.{Source}
use Rattle.source.specs.declared.BlockCount.TheVariants.{Counted}
use Rattle.source.specs.declared.distances.Reach.{Reach}
use Rattle.source.specs.declared.distances.Reach.TheVariants as reach
use Rattle.source.specs.Places.{marks, moved, added}
use Rattle.source.specs.Distances.{reach_of}
use Rattle.source.specs.Record.{arrivals, sound, wire_number}
use Rattle.source.specs.Arrivals.{extended, arrival, after}
use Rattle.source.specs.Blocks.{Packet, packets, marks_fit, count_all}
use Rattle.source.proofs.Rows.{bit_le, pack_lt}
use Rattle.source.proofs.Facts.{Facts, facts, highest_fits, some_has_counted}
use Rattle.source.proofs.Kept.{sound_stays}
use Rattle.source.proofs.Reached.{Within, within}
use Rattle.source.proofs.Packets.{packet, Left, rest, all_left, none_left, Next, one_left}
use Rattle.engine.specs.declared.lean.Lean.{Lean}
use Rattle.engine.specs.Limits.{Held}
use Rattle.engine.specs.Windows.{held, wired}
use Rattle.engine.specs.Settled.{Roomy}
use Rattle.engine.specs.Lean.{LeanFits, byte, awaited_in, remembered_as, begun, still_counted, restored, ahead, behind, restarted, skipped, jumped, TakenBy, above, taken, taken_all, Behind}
use Rattle.engine.proofs.Simulated.{Stands, pow-most, taken_follows}

-- ---- room for one arrival fewer

module _ (n : ℕ) (t : Lean) (f : LeanFits (suc n) t) (number mark : ℕ) (w : number < 65536) (m : mark ≤ 3) where
  fits_restarted : LeanFits n (restarted t number mark)
  unfolding restarted
  fits_restarted = record {
    base = omega arith;
    near = omega (arith, f.near);
    fits = pack_lt 36 (λ k. eqb (64 + k) 0);
    awaited = omega arith;
    room = omega (arith, f.room, pow-most mark m);
  }

  fits_skipped : LeanFits n (skipped t number)
  fits_skipped = record {
    base = f.base;
    near = omega (arith, f.near);
    fits = f.fits;
    awaited = omega arith;
    room = omega (arith, f.room);
  }

  fits_by : (r : Reach) → Within r → LeanFits n (TakenBy t number mark r)
  unfolding ahead behind jumped
  fits_by (reach.Ahead d) q = record {
    base = f.base;
    near = omega (arith, f.near, q.1);
    fits = pack_lt 36 (λ k. added 0 (moved d (marks t.history)) (64 + k));
    awaited = omega arith;
    room = omega (arith, f.room, pow-most mark m);
  }
  fits_by (reach.Behind k) q = record {
    base = f.base;
    near = omega (arith, f.near);
    fits = pack_lt 36 (λ i. added k (marks t.history) (64 + i));
    awaited = omega arith;
    room = omega (arith, f.room, pow-most mark m, bit_le (marks t.history k));
  }
  fits_by reach.Jump q = go (eqb number t.awaited)
    where
      go : (b : Bool) → LeanFits n (cond b (restarted t number mark) (skipped t number))
      go true = fits_restarted
      go false = fits_skipped

  pub fits_taken : LeanFits n (taken t number mark)
  unfolding taken
  fits_taken = fits_by (reach_of (above t.highest number)) (within (above t.highest number) (omega arith) refl)

-- ---- the loop

module _ (width : ℕ) (s : List ℕ) (start : Lean) where
  pub record Taking (at : ℕ) (t : Lean) : Type 0 where
    pub left : Left width s at
    pub fit : marks_fit (rest width s at left) ≡ true
    pub room : LeanFits left.k t
    pub same : taken_all (rest width s at left) t ≡ taken_all (held width s) start

  pub taking_start : {n : ℕ} → Held width s n → LeanFits n start → marks_fit (held width s) ≡ true → Taking 0 start
  unfolding all_left
  taking_start h f m = record {
    left = all_left width s h.whole;
    fit = m;
    room = subst (λ (k : ℕ). LeanFits k start) (sym h.count) f;
    same = refl;
  }

  pub taking_end : {at : ℕ} {t : Lean} → Taking at t → 1 ≤ width → length s ≤ at → (t ≡ taken_all (held width s) start) × LeanFits 0 t
  unfolding taken_all packets
  taking_end {at} {t} c w h = (
    ap (λ (ps : List Packet). taken_all ps t) (sym (none_left width s at c.left w h)) ∙ c.same,
    record {
      base = c.room.base;
      near = omega (arith, c.room.near);
      fits = c.room.fits;
      awaited = c.room.awaited;
      room = omega (arith, c.room.room);
    },
  )

  module _ {at : ℕ} {t : Lean} (c : Taking at t) (h : at < length s) where
    next : Next width s at c.left
    next = one_left width s at c.left h

    fitting : (leb (packet width s at).mark 3 && marks_fit (rest width s (at + width) next.after)) ≡ true
    fitting = sym (ap marks_fit next.is) ∙ c.fit

    pub taking_mark : (packet width s at).mark ≤ 3
    taking_mark = leb-true (packet width s at).mark 3 (and_left (leb (packet width s at).mark 3) _ fitting)

    here : LeanFits (suc next.after.k) t
    here = subst (λ (k : ℕ). LeanFits k t) next.one_less c.room

    pub taking_room : LeanFits 1 t
    taking_room = record {
      base = here.base;
      near = omega (arith, here.near);
      fits = here.fits;
      awaited = here.awaited;
      room = omega (arith, here.room);
    }

    pub taking_next : (packet width s at).wire.0 < 65536 → Taking (at + width) (taken t (packet width s at).wire.0 (packet width s at).mark)
    unfolding taken_all
    taking_next w = record {
      left = next.after;
      fit = and_right (leb (packet width s at).mark 3) _ fitting;
      room = fits_taken next.after.k t here (packet width s at).wire.0 (packet width s at).mark w taking_mark;
      same = ap (λ (ps : List Packet). taken_all ps t) (sym next.is) ∙ c.same;
    }

-- ---- what the state then stands for

-- a state that stands for a record with room for n arrivals, and counts that have room for them too
record Open (s : Source) (n : ℕ) (t : Lean) : Type 0 where
  good : sound (restored s t) ≡ true
  some : 1 ≤ arrivals (restored s t)
  room : arrivals (restored s t) + n ≤ 2 ^ 48
  few : (k : ℕ) → k ≤ 6 → byte k t.counts + n ≤ 62

-- where it ends
record Ends (s : Source) (ps : List Packet) (t : Lean) : Type 0 where
  same : count_all ps (restored s t) (byte 0 t.counts) (byte 6 t.counts)
      ≡ Counted (restored s (taken_all ps t)) (byte 0 (taken_all ps t).counts) (byte 6 (taken_all ps t).counts)
  good : sound (restored s (taken_all ps t)) ≡ true
  some : 1 ≤ arrivals (restored s (taken_all ps t))
  more : arrivals (restored s (taken_all ps t)) ≤ arrivals (restored s t) + length ps
  few : (k : ℕ) → k ≤ 6 → byte k (taken_all ps t).counts ≤ byte k t.counts + length ps

module _ (s : Source) where
  all_taken : (ps : List Packet) (t : Lean) → Open s (length ps) t → wired ps ≡ true → marks_fit ps ≡ true → Ends s ps t
  unfolding count_all taken_all
  all_taken [] t o w m = record { same = refl; good = o.good; some = o.some; more = omega arith; few = λ k l. omega arith }
  all_taken (p ∷ ps) t o w m =
      let wire : p.wire.0 < 65536 = ltb-true p.wire.0 65536 (and_left (ltb p.wire.0 65536) _ w) in
      let mark : p.mark ≤ 3 = leb-true p.mark 3 (and_left (leb p.mark 3) _ m) in
      let stands : Stands s t = record { good = o.good; some = o.some; room = omega (arith, o.room); small = λ k l. let f = o.few k l in omega arith } in
      let f = taken_follows s t stands p.wire p.mark wire mark in
      let a = arrival (restored s t) p.wire p.mark in
      let then : Lean = taken t p.wire.0 p.mark in
      let sum : arrivals (restored s then) ≡ arrivals (after a) = ap arrivals f.state in
      let open_next : Open s (length ps) then = record {
        good = ap sound f.state ∙ sound_stays (restored s t) p.wire p.mark wire o.good;
        some = omega (arith, sum, f.some);
        room = omega (arith, sum, f.more, o.room);
        few = λ k l. let g = f.grows k l in let h = o.few k l in omega arith;
      } in
      let e = all_taken ps then open_next (and_right (ltb p.wire.0 65536) _ w) (and_right (leb p.mark 3) _ m) in
      record {
        same = (λ i. count_all ps (sym f.state i) (sym f.jumps i) (sym f.restarts i)) ∙ e.same;
        good = e.good;
        some = e.some;
        more = omega (arith, e.more, sum, f.more);
        few = λ k l. let g = f.grows k l in let h = e.few k l in omega arith;
      }

  -- ---- from a record that has counted

  module _ (n : ℕ) (r : Roomy s n) (few : n ≤ 31) (typed : wire_number s.remembered ≡ true) where
    known : Facts s
    known = facts s (some_has_counted s r.good r.some)

    natural : {z : ℤ} (x : ℕ) → z ≡ pos x → pos (nat_abs z) ≡ z
    natural x e = ap pos (ap nat_abs e) ∙ sym e

    remembered_back : (m : Option Wire) → wire_number m ≡ true → remembered_as (awaited_in m) ≡ m
    unfolding remembered_as
    remembered_back None e = refl
    remembered_back (Some wire) e = let l = ltb-true wire.0 65536 e in rw (ne_eqb wire.0 65536 (λ z. omega arith)) refl

    awaited_few : (m : Option Wire) → wire_number m ≡ true → awaited_in m ≤ 65536
    awaited_few None e = omega arith
    awaited_few (Some wire) e = let l = ltb-true wire.0 65536 e in omega arith

    restored_begun : restored s (begun s) ≡ s
    unfolding restored still_counted
    restored_begun = λ i. record {
      base = extended (natural known.low known.base i);
      highest = extended (natural known.high known.highest i);
      notect = add-zero s.notect i;
      ect1 = add-zero s.ect1 i;
      ect0 = add-zero s.ect0 i;
      ce = add-zero s.ce i;
      duplicates = add-zero s.duplicates i;
      history = s.history;
      remembered = remembered_back s.remembered typed i;
    }

    pub begun_fits : LeanFits n (begun s)
    begun_fits =
        let low : nat_abs s.base.0 ≡ known.low = ap nat_abs known.base in
        record {
          base = omega (arith, low, known.wire);
          near = omega (arith, (highest_fits s known).1);
          fits = known.fits;
          awaited = awaited_few s.remembered typed;
          room = omega arith;
        }

    pub run_behind : (ps : List Packet) → length ps ≡ n → wired ps ≡ true → marks_fit ps ≡ true
        → Behind s ps (restored s (taken_all ps (begun s))) (byte 0 (taken_all ps (begun s)).counts) (byte 6 (taken_all ps (begun s)).counts)
    run_behind ps size w m =
        let total : arrivals (restored s (begun s)) ≡ arrivals s = ap arrivals restored_begun in
        let o : Open s (length ps) (begun s) = record {
          good = ap sound restored_begun ∙ r.good;
          some = omega (arith, total, r.some);
          room = omega (arith, total, r.room, size);
          few = λ k l. rw (zero-div (256 ^ k)) (omega (arith, size));
        } in
        let e = all_taken ps (begun s) o w m in
        record {
          same = ap (λ (x : Source). count_all ps x 0 0) (sym restored_begun) ∙ e.same;
          good = e.good;
          some = e.some;
          more = omega (arith, e.more, total);
          few_jumps = let h = e.few 0 (omega arith) in omega arith;
          few_restarts = let h = e.few 6 (omega arith) in omega arith;
        }
