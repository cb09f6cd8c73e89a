-- The records of a block, one after the other: what is left of them at a place. Assumes nothing.
use mathlib.Core.Path.{◌≡◌, refl, sym, ap, ◌∙◌}
use mathlib.Core.Bool.{true, false, ◌&&◌}
use mathlib.Core.List.{List, [], ◌∷◌, ◌++◌}
use Prim.Native.Nat.{ℕ, zero, suc, ◌+◌, ◌-◌, ◌*◌, ◌/◌, ◌%◌, ◌≤◌, ◌<◌}
use native.Mathlib.Nat.{suc-mul, div-add-mod'}
use native.Mathlib.Omega.{arith}
use borrow.Author.Tests.{le-leb, lt-leb, leb-true, eqb-true}
use lib.Dec.{eqb, leb}
use lib.ListN.{length, get_or, take, drop, get_or-append, length-append}
use lib.Seq.{get_or-take, get_or-drop, drop-drop, drop-append_seam, take-nil}
use Rattle.numbers.specs.BigEndian.{word}
use Rattle.numbers.proofs.BigEndian.{word_two, word_drop, word_left}
use Rattle.answers.specs.Conditions.{all}
use Rattle.answers.proofs.Conditions.{all_true, and_left, and_right}
use Rattle.answers.specs.Refusals.{number_of}
use Rattle.source.specs.declared.Source.{Source}
use Rattle.source.specs.declared.Arrival.{Arrival}
use Rattle.source.specs.declared.Arrival.TheVariants as answer
use Rattle.source.specs.declared.BlockCount.TheVariants.{Counted}
use Rattle.source.specs.Record.{sound}
use Rattle.source.specs.Arrivals.{arrival, after}
use Rattle.source.proofs.Rows.{bit_le}
use Rattle.source.specs.Blocks.{Packet, packets, marks_fit, in_limits, jump, restart, count_all}

-- the record of `width` bytes at a place
abbrev pub packet : ℕ → List ℕ → ℕ → Packet
packet width s at = record { wire = record { 0 = word 2 s (at + (width - 4)) }; mark = get_or s (at + (width - 2)) 0 }

-- that in the bytes of one record
abbrev pub packet_in : ℕ → List ℕ → Packet
packet_in width x = record { wire = record { 0 = word 2 x (width - 4) }; mark = get_or x (width - 2) 0 }

-- as a loop reads it
pub packet_is : (width : ℕ) (s : List ℕ) → 4 ≤ width → {n m : ℕ} → n ≡ word 2 (get_or s (width - 4) 0 ∷ get_or s (width - 3) 0 ∷ []) 0
    → m ≡ get_or s (width - 2) 0 → ◌≡◌ {A = Packet} (record { wire = record { 0 = n }; mark = m }) (packet_in width s)
packet_is width s h en em =
    let second : width - 3 ≡ width - 4 + 1 = omega arith in
    let number = en ∙ word_two (get_or s (width - 4) 0 ∷ get_or s (width - 3) 0 ∷ []) 0 ∙ ap (λ (i : ℕ). get_or s (width - 4) 0 * 256 + get_or s i 0) second ∙ sym (word_two s (width - 4)) in
    λ i. record { wire = record { 0 = number i }; mark = em i }

-- k records are left at a place
module _ (width : ℕ) (s : List ℕ) where
  pub record Left (at : ℕ) : Type 0 where
    pub k : ℕ
    pub whole : at + k * width ≡ length s

  abbrev pub rest : (at : ℕ) → Left at → List Packet
  rest at l = packets width l.k (drop at s)

  unfoldable pub all_left : length s % width ≡ 0 → Left 0
  all_left e = record { k = length s / width; whole = let d = div-add-mod' (length s) width in omega arith }

  -- at the end there are none
  pub none_left : (at : ℕ) (l : Left at) → 1 ≤ width → length s ≤ at → rest at l ≡ []
  unfolding packets
  none_left at l w h = go l.k l.whole
    where
      go : (k : ℕ) → at + k * width ≡ length s → packets width k (drop at s) ≡ []
      go zero e = refl
      go (suc k) e = absurd (omega (arith, suc-mul k width))

  -- before it there is one, and the others
  pub record Next (at : ℕ) (l : Left at) : Type 0 where
    pub after : Left (at + width)
    pub one_less : l.k ≡ suc after.k
    pub is : rest at l ≡ packet width s at ∷ rest (at + width) after

  pub one_left : (at : ℕ) (l : Left at) → at < length s → Next at l
  unfolding packets
  one_left at l h = go l l.k refl
    where
      go : (l : Left at) (k : ℕ) → l.k ≡ k → Next at l
      go l zero e = absurd (omega (arith, l.whole, ap (λ (i : ℕ). i * width) e))
      go l (suc k) e = record {
        after = record { k = k; whole = omega (arith, l.whole, ap (λ (i : ℕ). i * width) e, suc-mul k width) };
        one_less = e;
        is = rw (e, word_drop 2 at s (width - 4), get_or-drop at s (width - 2) 0, drop-drop width at s);
      }

  -- and it is whole
  pub room_left : (at : ℕ) (l : Left at) → at < length s → at + width ≤ length s
  room_left at l h = omega (arith, (one_left at l h).after.whole)

-- n records need no more bytes than these
word_take : (k m : ℕ) (s : List ℕ) (at : ℕ) → at + k ≤ m → word k (take m s) at ≡ word k s at
unfolding word
word_take zero m s at h = refl
word_take (suc k) m s at h = rw (word_take k m s at (omega arith), get_or-take m s (at + k) 0 (omega arith))

drop-take : (w m : ℕ) (s : List ℕ) → drop w (take m s) ≡ take (m - w) (drop w s)
drop-take zero m s = let e : m ≡ m - 0 = omega arith in ap (λ (k : ℕ). take k s) e
drop-take (suc w) zero s = let e : 0 ≡ zero - suc w = omega arith in ap (λ (k : ℕ). take k (drop (suc w) s)) e
drop-take (suc w) (suc m) [] = sym (take-nil (suc m - suc w))
drop-take (suc w) (suc m) (a ∷ s) =
    let e : m - w ≡ suc m - suc w = omega arith in drop-take w m s ∙ ap (λ (k : ℕ). take k (drop w s)) e

pub packets_take : (width n m : ℕ) (s : List ℕ) → 4 ≤ width → n * width ≤ m → packets width n (take m s) ≡ packets width n s
unfolding packets
packets_take w zero m s h l = refl
packets_take w (suc n) m s h l =
    let more = suc-mul n w in
    rw (word_take 2 m s (w - 4) (omega arith), get_or-take m s (w - 2) 0 (omega arith), drop-take w m s, packets_take w n (m - w) (drop w s) h (omega arith))

-- ---- 1 to 62 whole records, no mark above 3

pub record Limits (width : ℕ) (s : List ℕ) : Type 0 where
  pub wide : 4 ≤ width
  pub whole : length s % width ≡ 0
  pub some : 1 ≤ length s / width
  pub few : length s / width ≤ 62
  pub fit : marks_fit (packets width (length s / width) s) ≡ true

pub limits : (width : ℕ) (s : List ℕ) → all (in_limits width s) ≡ true → Limits width s
limits width s e = record {
  wide = leb-true 4 width (all_true (in_limits width s) 0 e);
  whole = eqb-true (length s % width) 0 (all_true (in_limits width s) 1 e);
  some = leb-true 1 (length s / width) (all_true (in_limits width s) 2 e);
  few = leb-true (length s / width) 62 (all_true (in_limits width s) 3 e);
  fit = all_true (in_limits width s) 4 e;
}

-- ---- the loops over a block

-- bytes s that begin with those of one record, x
pub record Cut (width : ℕ) (s x r : List ℕ) : Type 0 where
  pub joined : s ≡ x ++ r
  pub bytes : length x ≡ width

first_packet : (width k : ℕ) {x r s : List ℕ} → 4 ≤ width → Cut width s x r → packets width (suc k) s ≡ packet_in width x ∷ packets width k r
unfolding packets
first_packet width k {x} {r} h c =
    let l = c.bytes in
    let behind : drop width (x ++ r) ≡ r = ap (λ (w : ℕ). drop w (x ++ r)) (sym l) ∙ drop-append_seam x r in
    rw (c.joined, word_left x r (width - 4) 2 (omega arith), get_or-append x r 0 (width - 2) (omega arith), behind)

-- k whole records
pub record Whole (width : ℕ) (r : List ℕ) (k : ℕ) : Type 0 where
  pub bytes : length r ≡ k * width

-- so many are behind one of them
one_less : (width k : ℕ) {x r s : List ℕ} → 1 ≤ width → Whole width s k → Cut width s x r → (j : ℕ) × (k ≡ suc j) × Whole width r j
one_less width k {x} {r} w h c = go k refl
  where
    total : width + length r ≡ k * width
    total = ap (λ (i : ℕ). i + length r) (sym c.bytes) ∙ sym (length-append x r) ∙ ap length (sym c.joined) ∙ h.bytes

    go : (m : ℕ) → k ≡ m → (j : ℕ) × (k ≡ suc j) × Whole width r j
    go zero z = absurd (omega (arith, total, ap (λ (i : ℕ). i * width) z))
    go (suc m) z = (m, z, record { bytes = omega (arith, total, ap (λ (i : ℕ). i * width) z, suc-mul m width) })

-- fewer bytes than a record hold none
none_whole : (width k : ℕ) {r : List ℕ} → Whole width r k → length r < width → packets width k r ≡ []
unfolding packets
none_whole width zero h l = refl
none_whole width (suc k) h l = absurd (omega (arith, h.bytes, suc-mul k width))

whole_all : (width : ℕ) {s : List ℕ} → length s % width ≡ 0 → Whole width s (length s / width)
whole_all width {s} e = record { bytes = let d = div-add-mod' (length s) width in omega arith }

-- the marks of the records that are left, r, decide
pub record MarksLeft (width : ℕ) (s r : List ℕ) : Type 0 where
  pub wide : 4 ≤ width
  pub k : ℕ
  pub whole : Whole width r k
  pub same : marks_fit (packets width k r) ≡ marks_fit (packets width (length s / width) s)

module _ (width : ℕ) (s : List ℕ) where
  pub marks_start : {r : List ℕ} → 4 ≤ width → length s % width ≡ 0 → r ≡ s → MarksLeft width s r
  marks_start w e d = rw d (record { wide = w; k = length s / width; whole = whole_all width e; same = refl })

  module _ {r : List ℕ} (m : MarksLeft width s r) where
    pub marks_end : length r < width → true ≡ marks_fit (packets width (length s / width) s)
    marks_end h = ap marks_fit (sym (none_whole width m.k m.whole h)) ∙ m.same

    module _ {x t : List ℕ} (cut : Cut width r x t) where
      next_marks : (j : ℕ) × Whole width t j × (marks_fit (packets width (length s / width) s) ≡ (leb (get_or x (width - 2) 0) 3 && marks_fit (packets width j t)))
      next_marks =
          let w = m.wide in
          let n = one_less width m.k (omega arith) m.whole cut in
          (n.0, n.2, sym m.same ∙ ap (λ (i : ℕ). marks_fit (packets width i r)) n.1 ∙ ap marks_fit (first_packet width n.0 w cut))

      pub marks_fail : 3 < get_or x (width - 2) 0 → false ≡ marks_fit (packets width (length s / width) s)
      marks_fail g = sym (next_marks.2 ∙ rw (lt-leb (get_or x (width - 2) 0) 3 g))

      pub marks_next : get_or x (width - 2) 0 ≤ 3 → MarksLeft width s t
      marks_next g = record {
        wide = m.wide;
        k = next_marks.0;
        whole = next_marks.1;
        same = sym (next_marks.2 ∙ rw (le-leb (get_or x (width - 2) 0) 3 g));
      }

-- an answer is at most one jump, and at most one restart
pub jump_le : (a : Arrival) → jump a ≤ 1
jump_le (answer.Accepted s) = omega arith
jump_le (answer.Restarted s) = omega arith
jump_le (answer.Refused refusal s) = bit_le (eqb (number_of refusal) 7)

pub restart_le : (a : Arrival) → restart a ≤ 1
restart_le (answer.Accepted s) = omega arith
restart_le (answer.Restarted s) = omega arith
restart_le (answer.Refused refusal s) = omega arith

-- the count of the records that are left, r, is the count of all
pub record CountLeft (width : ℕ) (s : List ℕ) (start : Source) (r : List ℕ) (state : Source) (jumps restarts : ℕ) : Type 0 where
  pub wide : 4 ≤ width
  pub k : ℕ
  pub whole : Whole width r k
  pub fit : marks_fit (packets width k r) ≡ true
  pub good : sound state ≡ true
  pub few_jumps : jumps + k ≤ 62
  pub few_restarts : restarts + k ≤ 62
  pub same : count_all (packets width k r) state jumps restarts ≡ count_all (packets width (length s / width) s) start 0 0

module _ (width : ℕ) (s : List ℕ) (start : Source) where
  pub count_start : {r : List ℕ} → Limits width s → sound start ≡ true → r ≡ s → CountLeft width s start r start 0 0
  count_start l g d = rw d (record {
    wide = l.wide;
    k = length s / width;
    whole = whole_all width l.whole;
    fit = l.fit;
    good = g;
    few_jumps = omega (arith, l.few);
    few_restarts = omega (arith, l.few);
    same = refl;
  })

  module _ {r : List ℕ} {state : Source} {jumps restarts : ℕ} (c : CountLeft width s start r state jumps restarts) where
    pub count_end : length r < width → Counted state jumps restarts ≡ count_all (packets width (length s / width) s) start 0 0
    unfolding count_all
    count_end h = ap (λ (ps : List Packet). count_all ps state jumps restarts) (sym (none_whole width c.k c.whole h)) ∙ c.same

    module _ {x t : List ℕ} (cut : Cut width r x t) where
      next : (j : ℕ) × (c.k ≡ suc j) × Whole width t j
      next = let w = c.wide in one_less width c.k (omega arith) c.whole cut

      is : packets width c.k r ≡ packet_in width x ∷ packets width next.0 t
      is = ap (λ (i : ℕ). packets width i r) next.1 ∙ first_packet width next.0 c.wide cut

      fits : (leb (packet_in width x).mark 3 && marks_fit (packets width next.0 t)) ≡ true
      fits = sym (ap marks_fit is) ∙ c.fit

      pub mark_here : get_or x (width - 2) 0 ≤ 3
      mark_here = leb-true (packet_in width x).mark 3 (and_left (leb (packet_in width x).mark 3) _ fits)

      -- and there is room for one more of each
      pub room_here : (jumps ≤ 61) × (restarts ≤ 61)
      room_here = (omega (arith, c.few_jumps, next.1), omega (arith, c.few_restarts, next.1))

      pub count_next : (a : Arrival) → a ≡ arrival state (packet_in width x).wire (packet_in width x).mark → sound (after a) ≡ true
          → CountLeft width s start t (after a) (jumps + jump a) (restarts + restart a)
      unfolding count_all
      count_next a d g = record {
        wide = c.wide;
        k = next.0;
        whole = next.2;
        fit = and_right (leb (packet_in width x).mark 3) _ fits;
        good = g;
        few_jumps = omega (arith, c.few_jumps, next.1, jump_le a);
        few_restarts = omega (arith, c.few_restarts, next.1, restart_le a);
        same = ap (λ (b : Arrival). count_all (packets width next.0 t) (after b) (jumps + jump b) (restarts + restart b)) d
            ∙ ap (λ (ps : List Packet). count_all ps state jumps restarts) (sym is) ∙ c.same;
      }
