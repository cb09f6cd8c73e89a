-- Packets that all lie in the window of a record that has counted, in whatever order: counting them one by one is a union of places, and sums.
-- Assumes nothing.
use Rattle.std.specs.Prelude.{None}
use mathlib.Core.Path.{◌≡◌, refl, sym, ap, ap₂, ◌∙◌}
use mathlib.Core.Bool.{Bool, true, false, not, ◌||◌, or_assoc, or_comm, or-false}
use mathlib.Core.List.{List, [], ◌∷◌, ◌++◌}
use Prim.Native.Nat.{ℕ, suc, ◌+◌, ◌-◌, ◌*◌, ◌^◌, ◌≤◌, ◌<◌, min}
use native.Mathlib.Nat.{min-le_left, min-le_right, add-zero}
use native.Mathlib.Omega.{arith}
use borrow.Author.Tests.{leb-true, ltb-true}
use lib.Count.{ones}
use lib.Dec.{eqb, leb, ltb}
use lib.IntN.{ℤ, pos, ◌+ℤ◌, +ℤ_idr, +ℤ_assoc}
use lib.ListN.{length}
use Rattle.answers.proofs.Conditions.{and_left, and_right}
use Rattle.source.specs.declared.History.{History}
use Rattle.source.specs.declared.Source.{Source}
use Rattle.source.specs.declared.Arrival.{Arrival}
use Rattle.source.specs.declared.Arrival.TheVariants.{Accepted}
use Rattle.source.specs.Places.{bit, pack, history, marks, moved, added}
use Rattle.source.specs.Record.{arrivals, sound}
use Rattle.source.specs.Arrivals.{extended, counted, arrival, after}
use Rattle.source.specs.Blocks.{Packet, marks_fit, jump, restart, count_all}
use Rattle.source.proofs.Rows.{pack_lt, pack_ext, history_ext, marks_recent, marks_older}
use Rattle.source.proofs.Shifts.{moved_none, words_are}
use Rattle.source.proofs.Kept.{counted_arrivals, sound_stays}
use Rattle.engine.specs.Windows.{below, within, wired, hits, least}
use Rattle.engine.specs.Settled.{total, numbered, joined, forgotten, settled_at, settled}
use Rattle.engine.proofs.Near.{raised_by, near_accepted}
use Rattle.engine.proofs.Union.{eqb_shift, moved_twice, moved_marked, ones-more, ones-joined, least_le}

-- ---- sums

minus_minus : (q b e : ℕ) → e ≤ b → b ≤ q → (q - e) - (b - e) ≡ q - b
minus_minus q b e h l = omega arith

minus_le : (q b e : ℕ) → b ≤ q → b - e ≤ q - e
minus_le q b e l = omega arith

minus_lt : (q n e : ℕ) → q < n → q - e < n
minus_lt q n e l = omega arith

below_100 : (k : ℕ) → k < 64 → k < 100
below_100 k l = omega arith

-- one duplicate, or one place more
either_way : (d n was not old old' new : ℕ) → was + not ≡ 1 → old' ≡ old + not → new ≤ n + old' → d + was + (n + old' - new) ≡ d + (suc n + old - new)
either_way d n was not old old' new one e h = omega arith

-- ---- one packet before the others

-- it lies at place q of the window, and the highest number at place a; then that lies at b, and behind all packets at e
module _ (top a b e : ℕ) (s : Source) (p : Packet) (ps : List Packet) (first : e ≤ b) (lower : b ≤ a) (nearer : b ≤ below top p) (near : below top p < 64) where
  abbrev q : ℕ
  q = below top p

  abbrev row : ℕ → Bool
  row = marks s.history

  abbrev next : Source
  next = raised_by (a - b) (q - b) s p.mark

  -- the row before, moved on
  moved_on : (k : ℕ) → k < 100 → moved (b - e) (marks (history (added (q - b) (moved (a - b) row)))) k ≡ added (q - e) (moved (a - e) row) k
  moved_on k l =
      let span : (a - b) + (b - e) ≡ a - e = omega arith in
      let place : (q - b) + (b - e) ≡ q - e = omega arith in
      moved_marked row (a - b) (b - e) (q - b) k l ∙ ap₂ (λ (j d : ℕ). added j (moved d row) k) place span

  joined_on : (k : ℕ) → k < 100 → joined top (b - e) e ps (marks (history (added (q - b) (moved (a - b) row)))) k ≡ joined top (a - e) e (p ∷ ps) row k
  unfolding hits added
  joined_on k l =
      let place : (q - e) + e ≡ q = omega arith in
      let test : eqb k (q - e) ≡ eqb (e + k) q = sym (eqb_shift e k (q - e)) ∙ ap (eqb (e + k)) place in
      let A = eqb k (q - e) in
      let M = moved (a - e) row k in
      let H = hits top ps (e + k) in
      ap (λ (t : Bool). t || H) (moved_on k l) ∙ ap (λ (t : Bool). t || H) (or_comm A M) ∙ or_assoc M A H ∙ ap (λ (t : Bool). M || (t || H)) test

  -- the duplicates: the packet's own, and those behind it
  bit_both : (t : Bool) → bit t + bit (not t) ≡ 1
  bit_both true = refl
  bit_both false = refl

  duplicates_on : s.duplicates + bit (moved (a - b) row (q - b))
      + (length ps + ones (pack 64 (moved (b - e) (marks (history (added (q - b) (moved (a - b) row))))))
      - ones (pack 64 (joined top (b - e) e ps (marks (history (added (q - b) (moved (a - b) row)))))))
      ≡ s.duplicates + (suc (length ps) + ones (pack 64 (moved (a - e) row)) - ones (pack 64 (joined top (a - e) e (p ∷ ps) row)))
  duplicates_on =
      let past : ℕ → Bool = marks (history (added (q - b) (moved (a - b) row))) in
      let span : (a - b) + (b - e) ≡ a - e = omega arith in
      let place : (q - e) - (b - e) ≡ q - b = minus_minus q b e first nearer in
      let was : bit (moved (a - b) row (q - b)) ≡ bit (moved (a - e) row (q - e)) =
      ap bit (ap (moved (a - b) row) (sym place) ∙ moved_twice row (a - b) (b - e) (q - e) (minus_le q b e nearer) ∙ ap (λ (d : ℕ). moved d row (q - e)) span) in
      let old : ones (pack 64 (moved (b - e) past)) ≡ ones (pack 64 (moved (a - e) row)) + bit (not (moved (a - e) row (q - e))) =
      ap ones (pack_ext 64 (moved (b - e) past) (added (q - e) (moved (a - e) row)) (λ k l. moved_on k (below_100 k l))) ∙ ones-more 64 (q - e) (moved (a - e) row) (minus_lt q 64 e near) in
      let new : ones (pack 64 (joined top (b - e) e ps past)) ≡ ones (pack 64 (joined top (a - e) e (p ∷ ps) row)) =
      ap ones (pack_ext 64 (joined top (b - e) e ps past) (joined top (a - e) e (p ∷ ps) row) (λ k l. joined_on k (below_100 k l))) in
      let sums = either_way s.duplicates (length ps) (bit (moved (a - e) row (q - e))) (bit (not (moved (a - e) row (q - e)))) (ones (pack 64 (moved (a - e) row)))
      (ones (pack 64 (moved (b - e) past))) (ones (pack 64 (joined top (b - e) e ps past))) (bit_both (moved (a - e) row (q - e))) old (ones-joined top (b - e) e ps past) in
      ap (λ (n : ℕ). s.duplicates + n + (length ps + ones (pack 64 (moved (b - e) past)) - ones (pack 64 (joined top (b - e) e ps past)))) was
      ∙ sums ∙ ap (λ (n : ℕ). s.duplicates + (suc (length ps) + ones (pack 64 (moved (a - e) row)) - n)) new

  settled_on : settled_at top b e next ps ≡ settled_at top a e s (p ∷ ps)
  unfolding settled_at counted total
  settled_on =
      let span : (a - b) + (b - e) ≡ a - e = omega arith in
      let marked : (m : ℕ) (n : ℕ) → n + bit (eqb p.mark m) + numbered m ps ≡ n + (bit (eqb p.mark m) + numbered m ps) = λ m n. omega arith in
      λ i. record {
        base = s.base;
        highest = ap extended (+ℤ_assoc s.highest.0 (pos (a - b)) (pos (b - e)) ∙ ap (λ (n : ℕ). s.highest.0 +ℤ pos n) span) i;
        notect = marked 0 s.notect i;
        ect1 = marked 1 s.ect1 i;
        ect0 = marked 2 s.ect0 i;
        ce = marked 3 s.ce i;
        duplicates = duplicates_on i;
        history = history_ext (joined top (b - e) e ps (marks (history (added (q - b) (moved (a - b) row))))) (joined top (a - e) e (p ∷ ps) row) joined_on i;
        remembered = nothing_left ps i;
      }
    where
      nothing_left : (ps : List Packet) → forgotten ps None ≡ None
      nothing_left [] = refl
      nothing_left (p ∷ ps) = refl

-- ---- no packet

-- two words are the row of their places
history_marks : (h : History) → h.recent < 2 ^ 64 → h.older < 2 ^ 36 → history (marks h) ≡ h
history_marks h l m = sym (words_are h.recent h.older (marks h) l m (λ k g. sym (marks_recent h k g)) (λ k g. sym (marks_older h k)))

module _ (top a : ℕ) (s : Source) (recent : s.history.recent < 2 ^ 64) (older : s.history.older < 2 ^ 36) where
  unmoved : (k : ℕ) → joined top (a - a) a [] (marks s.history) k ≡ marks s.history k
  unfolding hits
  unmoved k =
      let z : a - a ≡ 0 = omega arith in
      or-false (moved (a - a) (marks s.history) k) ∙ rw z (ap (λ (row : ℕ → Bool). row k) (moved_none (marks s.history)))

  settled_none : settled top a s [] ≡ s
  unfolding settled_at total least hits
  settled_none =
      let z : a - a ≡ 0 = omega arith in
      let same : ones (pack 64 (joined top (a - a) a [] (marks s.history))) ≡ ones (pack 64 (moved (a - a) (marks s.history))) =
      ap ones (pack_ext 64 (joined top (a - a) a [] (marks s.history)) (moved (a - a) (marks s.history)) (λ k l. or-false (moved (a - a) (marks s.history) k))) in
      λ i. record {
        base = s.base;
        highest = ap extended (ap (λ (n : ℕ). s.highest.0 +ℤ pos n) z ∙ +ℤ_idr s.highest.0) i;
        notect = add-zero s.notect i;
        ect1 = add-zero s.ect1 i;
        ect0 = add-zero s.ect0 i;
        ce = add-zero s.ce i;
        duplicates = none_more s.duplicates (ones (pack 64 (moved (a - a) (marks s.history)))) (ones (pack 64 (joined top (a - a) a [] (marks s.history)))) same i;
        history = (history_ext (joined top (a - a) a [] (marks s.history)) (marks s.history) (λ k l. unmoved k) ∙ history_marks s.history recent older) i;
        remembered = s.remembered;
      }
    where
      none_more : (d o n : ℕ) → n ≡ o → d + (0 + o - n) ≡ d
      none_more d o n e = omega arith

-- ---- all packets

module _ (top a : ℕ) (s : Source) (ps qs : List Packet) where
  pub record Settles : Type 0 where
    pub same : count_all (ps ++ qs) s 0 0 ≡ count_all qs (settled top a s ps) 0 0
    pub good : sound (settled top a s ps) ≡ true
    pub more : arrivals (settled top a s ps) ≡ arrivals s + length ps

-- a record that has counted, its highest number at place a of the window
pub record Open (top c a h n : ℕ) (s : Source) : Type 0 where
  pub small : a ≤ 40
  pub high : s.highest.0 ≡ pos h
  pub anchor : h + a ≡ top + 65536 * c
  pub good : sound s ≡ true
  pub some : 1 ≤ arrivals s
  pub room : arrivals s + n ≤ 2 ^ 48
  pub recent : s.history.recent < 2 ^ 64
  pub older : s.history.older < 2 ^ 36

-- the record behind the first packet
module _ (top c a h n : ℕ) (s : Source) (p : Packet) (o : Open top c a h (suc n) s) (wire : p.wire.0 < 65536) (mark : p.mark ≤ 3) (near : below top p < 64) where
  abbrev nearer : ℕ
  nearer = min a (below top p)

  abbrev second : Source
  second = raised_by (a - nearer) (below top p - nearer) s p.mark

  accepted : arrival s p.wire p.mark ≡ Accepted second
  accepted =
      let room : arrivals s < 2 ^ 48 = omega (arith, o.room) in
      near_accepted top a c o.small s h o.high o.anchor p wire near o.good mark o.some room

  one_more_lem : arrivals second ≡ arrivals s + 1
  one_more_lem = counted_arrivals s p.mark mark s.base _ _ _

  open_next : Open top c nearer (h + (a - nearer)) n second
  unfolding counted
  open_next =
      let le = min-le_left a (below top p) in
      record {
        small = omega (arith, o.small);
        high = ap (λ (z : ℤ). z +ℤ pos (a - nearer)) o.high;
        anchor = omega (arith, o.anchor);
        good = sym (ap (λ (b : Arrival). sound (after b)) accepted) ∙ sound_stays s p.wire p.mark wire o.good;
        some = omega (arith, one_more_lem);
        room = omega (arith, one_more_lem, o.room);
        recent = pack_lt 64 (added (below top p - nearer) (moved (a - nearer) (marks s.history)));
        older = pack_lt 36 (λ k. added (below top p - nearer) (moved (a - nearer) (marks s.history)) (64 + k));
      }

  settles_next : (ps qs : List Packet) → Settles top nearer second ps qs → Settles top a s (p ∷ ps) qs
  unfolding count_all least
  settles_next ps qs r =
      let on : settled top nearer second ps ≡ settled top a s (p ∷ ps) =
      settled_on top a nearer (least top nearer ps) s p ps (least_le top nearer ps) (min-le_left a (below top p)) (min-le_right a (below top p)) near in
      record {
        same = ap (λ (b : Arrival). count_all (ps ++ qs) (after b) (0 + jump b) (0 + restart b)) accepted ∙ r.same ∙ ap (λ (t : Source). count_all qs t 0 0) on;
        good = ap sound (sym on) ∙ r.good;
        more = ap arrivals (sym on) ∙ r.more ∙ omega (arith, one_more_lem);
      }

pub settles : (top c : ℕ) (ps qs : List Packet) (a h : ℕ) (s : Source) → Open top c a h (length ps) s → wired ps ≡ true → marks_fit ps ≡ true → within top ps ≡ true
    → Settles top a s ps qs
settles top c [] qs a h s o w m n =
    let none : settled top a s [] ≡ s = settled_none top a s o.recent o.older in
    record {
      same = ap (λ (t : Source). count_all qs t 0 0) (sym none);
      good = ap sound none ∙ o.good;
      more = ap arrivals none ∙ sym (add-zero (arrivals s));
    }
settles top c (p ∷ ps) qs a h s o w m n =
    let wire : p.wire.0 < 65536 = ltb-true p.wire.0 65536 (and_left (ltb p.wire.0 65536) _ w) in
    let mark : p.mark ≤ 3 = leb-true p.mark 3 (and_left (leb p.mark 3) _ m) in
    let near : below top p < 64 = ltb-true (below top p) 64 (and_left (ltb (below top p) 64) _ n) in
    settles_next top c a h (length ps) s p o wire mark near ps qs
    (settles top c ps qs (min a (below top p)) (h + (a - min a (below top p))) (raised_by (a - min a (below top p)) (below top p - min a (below top p)) s p.mark)
    (open_next top c a h (length ps) s p o wire mark near) (and_right (ltb p.wire.0 65536) _ w) (and_right (leb p.mark 3) _ m) (and_right (ltb (below top p) 64) _ n))

-- the words of its history are packed
pub settled_recent : (top a : ℕ) (s : Source) (ps : List Packet) → (settled top a s ps).history.recent < 2 ^ 64
unfolding settled_at
settled_recent top a s ps = pack_lt 64 (joined top (a - least top a ps) (least top a ps) ps (marks s.history))
