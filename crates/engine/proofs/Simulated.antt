-- Counting an arrival in few words is counting it by `arrival`, seen through the record that the words stand for. Assumes nothing.
use Rattle.std.specs.Prelude.{Some, None}
use mathlib.Core.Path.{◌≡◌, refl, sym, ap, ap₂, subst, ◌∙◌}
use mathlib.Core.Bool.{Bool, true, false, cond}
use Prim.Native.Nat.{ℕ, zero, suc, ◌+◌, ◌*◌, ◌%◌, ◌^◌, ◌≤◌, ◌<◌}
use native.Mathlib.Nat.{add_assoc, add-zero}
use native.Mathlib.Omega.{arith}
use borrow.Author.Tests.{eqb-true, ne_eqb}
use lib.Dec.{eqb}
use lib.IntN.{pos}
use Rattle.format.specs.declared.Wire.{Wire}
use Rattle.source.specs.declared.History.{History}
use Rattle.source.specs.declared.Source.{Source}
use Rattle.source.specs.declared.Arrival.{Arrival}
use Rattle.source.specs.declared.Arrival.TheVariants.{Accepted, Restarted, Refused}
use Rattle.answers.specs.declared.Refusal.TheVariants.{Jump}
use Rattle.source.specs.declared.distances.Reach.{Reach}
use Rattle.source.specs.declared.distances.Reach.TheVariants as reach
use Rattle.source.specs.Places.{bit, history, marks, moved, added}
use Rattle.source.specs.Distances.{reach_of}
use Rattle.source.specs.Record.{arrivals, fresh_record, sound}
use Rattle.source.specs.Arrivals as spec
use Rattle.source.specs.Arrivals.{extended}
use Rattle.source.specs.Blocks.{jump, restart}
use Rattle.source.proofs.Rows.{bit_le}
use Rattle.source.proofs.Kept.{counted_arrivals}
use Rattle.source.proofs.Answers.{arrival_later}
use Rattle.engine.specs.declared.lean.Lean.{Lean}
use Rattle.engine.specs.Lean.{byte, remembered_as, still_counted, restored, unit, raised, ahead, behind, cleared, restarted, skipped, jumped, TakenBy, above, taken}
use Rattle.engine.proofs.Near.{distance_nat}
use Rattle.engine.proofs.Bytes.{units, mark_byte, byte_raised, byte_units, cleared_bytes}

-- a state that stands for a record which has counted and has room, in a part begun with s
pub record Stands (s : Source) (t : Lean) : Type 0 where
  pub good : sound (restored s t) ≡ true
  pub some : 1 ≤ arrivals (restored s t)
  pub room : arrivals (restored s t) < 2 ^ 48
  pub small : (k : ℕ) → k ≤ 6 → byte k t.counts < 255

-- the state `next` stands for what an answer hands back, and no count grew by more than one
pub record Follows (s : Source) (t : Lean) (next : Lean) (a : Arrival) : Type 0 where
  pub state : restored s next ≡ spec.after a
  pub jumps : byte 0 next.counts ≡ byte 0 t.counts + jump a
  pub restarts : byte 6 next.counts ≡ byte 6 t.counts + restart a
  pub grows : (k : ℕ) → k ≤ 6 → byte k next.counts ≤ byte k t.counts + 1
  pub most : next.counts ≤ t.counts + 2 ^ 49
  pub some : 1 ≤ arrivals (spec.after a)
  pub more : arrivals (spec.after a) ≤ arrivals (restored s t) + 1

pub pow-most : (mark : ℕ) → mark ≤ 3 → 256 ^ (2 + mark) ≤ 2 ^ 40
pow-most zero m = omega arith
pow-most (suc zero) m = omega arith
pow-most (suc (suc zero)) m = omega arith
pow-most (suc (suc (suc zero))) m = omega arith
pow-most (suc (suc (suc (suc mark)))) m = absurd (omega arith)

module _ (s : Source) (t : Lean) (g : Stands s t) (mark : ℕ) (m : mark ≤ 3) where
  -- ---- an accepted arrival

  -- a count, as it grows
  up : (again : Bool) (k u : ℕ) → bit (eqb (2 + mark) k) + bit again * bit (eqb 1 k) ≡ u → byte k (t.counts + units mark again) ≡ byte k t.counts + u
  up again k u e = byte_units t.counts mark m g.small again k ∙ ap (λ (b : ℕ). byte k t.counts + b) e

  none_six : (again : Bool) → byte 6 (t.counts + units mark again) ≡ byte 6 t.counts
  none_six again =
      let z = (mark_byte mark m).6 in
      up again 6 0 (omega arith) ∙ add-zero (byte 6 t.counts)

  since_same : (again : Bool) (n : ℕ) → still_counted (t.counts + units mark again) n ≡ still_counted t.counts n
  unfolding still_counted
  since_same again n = ap (λ (b : ℕ). cond (eqb b 0) n 0) (none_six again)

  grown : (again : Bool) (n k u : ℕ) → bit (eqb (2 + mark) k) + bit again * bit (eqb 1 k) ≡ u
      → still_counted (t.counts + units mark again) n + byte k (t.counts + units mark again) ≡ still_counted t.counts n + byte k t.counts + u
  grown again n k u e = ap₂ ◌+◌ (since_same again n) (up again k u e) ∙ sym (add_assoc (still_counted t.counts n) (byte k t.counts) u)

  counted_restored : (h : ℕ) (past : History) (again : Bool) (n : ℕ) → n ≡ (restored s t).duplicates + bit again
      → restored s (raised t h past (units mark again)) ≡ spec.counted (restored s t) mark (restored s t).base (extended (pos h)) n past
  unfolding restored spec.counted remembered_as
  counted_restored h past again n e =
      let b = mark_byte mark m in
      λ i. record {
        base = extended (pos t.base);
        highest = extended (pos h);
        notect = grown again s.notect 2 (bit (eqb mark 0)) (omega (arith, b.2)) i;
        ect1 = grown again s.ect1 3 (bit (eqb mark 1)) (omega (arith, b.3)) i;
        ect0 = grown again s.ect0 4 (bit (eqb mark 2)) (omega (arith, b.4)) i;
        ce = grown again s.ce 5 (bit (eqb mark 3)) (omega (arith, b.5)) i;
        duplicates = (grown again s.duplicates 1 (bit again) (omega (arith, b.1)) ∙ sym e) i;
        history = past;
        remembered = None;
      }

  grows_one : (again : Bool) (k : ℕ) → k ≤ 6 → byte k (t.counts + units mark again) ≤ byte k t.counts + 1
  grows_one again k l = rw (up again k _ refl) (most (eqb 1 k) refl)
    where
      most : (one : Bool) → eqb 1 k ≡ one → byte k t.counts + (bit (eqb (2 + mark) k) + bit again * bit (eqb 1 k)) ≤ byte k t.counts + 1
      most true e =
          let is : 1 ≡ k = eqb-true 1 k e in
          let z : bit (eqb (2 + mark) k) ≡ 0 = ap (λ (j : ℕ). bit (eqb (2 + mark) j)) (sym is) ∙ (mark_byte mark m).1 in
          rw e (let a = bit_le again in omega arith)
      most false e = rw e (let a = bit_le (eqb (2 + mark) k) in omega arith)

  accepted : (h : ℕ) (past : History) (again : Bool) (n : ℕ) → n ≡ (restored s t).duplicates + bit again → (next : Source)
      → next ≡ spec.counted (restored s t) mark (restored s t).base (extended (pos h)) n past → Follows s t (raised t h past (units mark again)) (Accepted next)
  accepted h past again n e next en =
      let sum : arrivals next ≡ arrivals (restored s t) + 1 = ap arrivals en ∙ counted_arrivals (restored s t) mark m (restored s t).base (extended (pos h)) n past in
      let b = mark_byte mark m in
      record {
        state = counted_restored h past again n e ∙ sym en;
        jumps = up again 0 0 (omega (arith, b.0));
        restarts = up again 6 0 (omega (arith, b.6));
        grows = λ k l. grows_one again k l;
        most = omega (arith, pow-most mark m, bit_le again);
        some = omega (arith, sum);
        more = omega (arith, sum);
      }

  ahead_follows : (d : ℕ) → Follows s t (ahead t d mark) (Accepted (spec.ahead (restored s t) d mark))
  unfolding ahead spec.ahead restored
  ahead_follows d =
      let one : units mark false ≡ unit mark = omega arith in
      let past = history (added 0 (moved d (marks t.history))) in
      subst (λ (u : ℕ). Follows s t (raised t (t.highest + d) past u) (Accepted (spec.ahead (restored s t) d mark))) one
      (accepted (t.highest + d) past false _ (sym (add-zero (restored s t).duplicates)) _ refl)

  behind_follows : (k : ℕ) → Follows s t (behind t k mark) (Accepted (spec.behind (restored s t) k mark))
  unfolding behind spec.behind restored
  behind_follows k = accepted t.highest _ (marks t.history k) _ refl _ refl

  -- ---- a jump that is left out

  skipped_follows : (number : ℕ) → Follows s t (skipped t number) (Refused Jump (spec.remembering (restored s t) (spec.next (record { 0 = number }))))
  unfolding restored spec.remembering remembered_as still_counted
  skipped_follows number = record {
    state = λ i. record {
      base = extended (pos t.base);
      highest = extended (pos t.highest);
      notect = same s.notect 2 refl i;
      ect1 = same s.ect1 3 refl i;
      ect0 = same s.ect0 4 refl i;
      ce = same s.ce 5 refl i;
      duplicates = same s.duplicates 1 refl i;
      history = t.history;
      remembered = number_kept i;
    };
    jumps = one 0;
    restarts = one 6;
    grows = λ k l. rw (one k) (let b = bit_le (eqb 0 k) in omega arith);
    most = omega arith;
    some = g.some;
    more = omega arith;
  }
    where
      one : (k : ℕ) → byte k (t.counts + 1) ≡ byte k t.counts + bit (eqb 0 k)
      one k = byte_raised t.counts 0 k (g.small 0 (omega arith))

      same : (n k : ℕ) → bit (eqb 0 k) ≡ 0 → still_counted (t.counts + 1) n + byte k (t.counts + 1) ≡ still_counted t.counts n + byte k t.counts
      same n k e =
          ap₂ ◌+◌ (ap (λ (b : ℕ). cond (eqb b 0) n 0) (one 6 ∙ add-zero (byte 6 t.counts)))
          (one k ∙ ap (λ (b : ℕ). byte k t.counts + b) e ∙ add-zero (byte k t.counts))

      number_kept : remembered_as ((number + 1) % 65536) ≡ Some (record { 0 = (number + 1) % 65536 })
      number_kept = rw (ne_eqb ((number + 1) % 65536) 65536 (λ z. omega arith)) refl

  -- ---- a restart

  module _ (number : ℕ) where
    abbrev fresh_counts : ℕ
    fresh_counts = cleared t.counts + 256 ^ 6 + unit mark

    with_restart : (k : ℕ) → byte k (cleared t.counts + 256 ^ 6) ≡ byte k (cleared t.counts) + bit (eqb 6 k)
    with_restart k = byte_raised (cleared t.counts) 6 k (rw (cleared_bytes t.counts).sixth (g.small 6 (omega arith)))

    small_mark : (mark' : ℕ) → mark' ≤ 3 → byte (2 + mark') (cleared t.counts + 256 ^ 6) < 255
    small_mark zero l = rw (with_restart 2) (omega (arith, (cleared_bytes t.counts).second))
    small_mark (suc zero) l = rw (with_restart 3) (omega (arith, (cleared_bytes t.counts).third))
    small_mark (suc (suc zero)) l = rw (with_restart 4) (omega (arith, (cleared_bytes t.counts).fourth))
    small_mark (suc (suc (suc zero))) l = rw (with_restart 5) (omega (arith, (cleared_bytes t.counts).fifth))
    small_mark (suc (suc (suc (suc n)))) l = absurd (omega arith)

    fresh_byte : (k : ℕ) → byte k fresh_counts ≡ byte k (cleared t.counts) + bit (eqb 6 k) + bit (eqb (2 + mark) k)
    fresh_byte k = byte_raised (cleared t.counts + 256 ^ 6) (2 + mark) k (small_mark mark m) ∙ ap (λ (b : ℕ). b + bit (eqb (2 + mark) k)) (with_restart k)

    some_six : byte 6 fresh_counts ≡ byte 6 t.counts + 1
    some_six = fresh_byte 6 ∙ omega (arith, (cleared_bytes t.counts).sixth, (mark_byte mark m).6)

    since_none : (n : ℕ) → still_counted fresh_counts n ≡ 0
    unfolding still_counted
    since_none n = rw (ne_eqb (byte 6 fresh_counts) 0 (λ z. omega (arith, some_six, z))) refl

    begins : (n k u : ℕ) → byte k fresh_counts ≡ u → still_counted fresh_counts n + byte k fresh_counts ≡ 0 + u
    begins n k u e = ap₂ ◌+◌ (since_none n) e

    restarted_state : restored s (restarted t number mark) ≡ spec.first fresh_record (record { 0 = number }) mark
    unfolding restored restarted spec.first spec.counted remembered_as
    restarted_state =
        let c = cleared_bytes t.counts in
        let b = mark_byte mark m in
        λ i. record {
          base = extended (pos number);
          highest = extended (pos number);
          notect = begins s.notect 2 (bit (eqb mark 0)) (fresh_byte 2 ∙ omega (arith, c.second, b.2)) i;
          ect1 = begins s.ect1 3 (bit (eqb mark 1)) (fresh_byte 3 ∙ omega (arith, c.third, b.3)) i;
          ect0 = begins s.ect0 4 (bit (eqb mark 2)) (fresh_byte 4 ∙ omega (arith, c.fourth, b.4)) i;
          ce = begins s.ce 5 (bit (eqb mark 3)) (fresh_byte 5 ∙ omega (arith, c.fifth, b.5)) i;
          duplicates = begins s.duplicates 1 0 (fresh_byte 1 ∙ omega (arith, c.first, b.1)) i;
          history = history (λ k. eqb k 0);
          remembered = None;
        }

    fresh_grows : (k : ℕ) → k ≤ 6 → byte k fresh_counts ≤ byte k t.counts + 1
    fresh_grows zero l = rw (fresh_byte 0) (omega (arith, (cleared_bytes t.counts).zeroth, (mark_byte mark m).0))
    fresh_grows (suc zero) l = rw (fresh_byte 1) (omega (arith, (cleared_bytes t.counts).first, (mark_byte mark m).1))
    fresh_grows (suc (suc zero)) l = rw (fresh_byte 2) (omega (arith, (cleared_bytes t.counts).second, bit_le (eqb (2 + mark) 2)))
    fresh_grows (suc (suc (suc zero))) l = rw (fresh_byte 3) (omega (arith, (cleared_bytes t.counts).third, bit_le (eqb (2 + mark) 3)))
    fresh_grows (suc (suc (suc (suc zero)))) l = rw (fresh_byte 4) (omega (arith, (cleared_bytes t.counts).fourth, bit_le (eqb (2 + mark) 4)))
    fresh_grows (suc (suc (suc (suc (suc zero))))) l = rw (fresh_byte 5) (omega (arith, (cleared_bytes t.counts).fifth, bit_le (eqb (2 + mark) 5)))
    fresh_grows (suc (suc (suc (suc (suc (suc zero)))))) l = omega (arith, some_six)
    fresh_grows (suc (suc (suc (suc (suc (suc (suc k))))))) l = absurd (omega arith)

    restarted_follows : Follows s t (restarted t number mark) (Restarted (spec.first fresh_record (record { 0 = number }) mark))
    unfolding restarted spec.first
    restarted_follows =
        let sum = counted_arrivals fresh_record mark m (extended (pos number)) (extended (pos number)) 0 (history (λ k. eqb k 0)) in
        record {
          state = restarted_state;
          jumps = fresh_byte 0 ∙ omega (arith, (cleared_bytes t.counts).zeroth, (mark_byte mark m).0);
          restarts = some_six;
          grows = λ k l. fresh_grows k l;
          most = omega (arith, pow-most mark m);
          some = omega (arith, sum);
          more = omega (arith, sum, g.some);
        }

-- whether a jump has the remembered number
module _ (s : Source) (t : Lean) where
  remembered_is : (number : ℕ) → number < 65536 → spec.is_remembered (remembered_as t.awaited) (record { 0 = number }) ≡ eqb number t.awaited
  unfolding remembered_as
  remembered_is number l = go (eqb t.awaited 65536) refl
    where
      go : (b : Bool) → eqb t.awaited 65536 ≡ b → spec.is_remembered (cond b None (Some (record { 0 = t.awaited }))) (record { 0 = number }) ≡ eqb number t.awaited
      go true e = let is = eqb-true t.awaited 65536 e in sym (ne_eqb number t.awaited (λ z. omega arith))
      go false e = refl

-- one arrival
module _ (s : Source) (t : Lean) (g : Stands s t) (wire : Wire) (mark : ℕ) (w : wire.0 < 65536) (m : mark ≤ 3) where
  jumped_follows : Follows s t (jumped t wire.0 mark) (spec.jumped (restored s t) wire mark)
  unfolding jumped spec.jumped restored
  jumped_follows = rw (remembered_is s t wire.0 w) (go (eqb wire.0 t.awaited))
    where
      go : (b : Bool) → Follows s t (cond b (restarted t wire.0 mark) (skipped t wire.0))
          (cond b (Restarted (spec.first fresh_record wire mark)) (Refused Jump (spec.remembering (restored s t) (spec.next wire))))
      go true = restarted_follows s t g mark m wire.0
      go false = skipped_follows s t g mark m wire.0

  by : (r : Reach) → Follows s t (TakenBy t wire.0 mark r) (spec.later_by (restored s t) wire mark r)
  by (reach.Ahead d) = ahead_follows s t g mark m d
  by (reach.Behind k) = behind_follows s t g mark m k
  by reach.Jump = jumped_follows

  above_is : spec.distance (restored s t).highest wire ≡ above t.highest wire.0
  unfolding spec.distance restored
  above_is = distance_nat wire.0 t.highest w

  pub taken_follows : Follows s t (taken t wire.0 mark) (spec.arrival (restored s t) wire mark)
  unfolding taken
  taken_follows =
      rw (arrival_later (restored s t) wire mark g.good m g.some g.room, above_is) (by (reach_of (above t.highest wire.0)))
