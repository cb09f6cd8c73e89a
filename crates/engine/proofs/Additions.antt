-- Sums over the records of a part: what is left of them at a place. Assumes nothing.
use mathlib.Core.Path.{◌≡◌, sym, ap, ◌∙◌}
use mathlib.Core.Bool.{not}
use mathlib.Core.List.{List, ◌∷◌}
use Prim.Native.Nat.{ℕ, suc, ◌+◌, ◌*◌, ◌/◌, ◌%◌, ◌≤◌, ◌<◌}
use native.Mathlib.Nat.{add-zero, zero-add, add_assoc}
use native.Mathlib.Omega.{arith}
use lib.Dec.{eqb}
use lib.ListN.{length}
use Rattle.source.specs.Places.{bit}
use Rattle.source.specs.Blocks.{Packet}
use Rattle.source.proofs.Rows.{bit_le}
use Rattle.source.proofs.Packets.{packet, Left, rest, all_left, none_left, Next, one_left}
use Rattle.engine.specs.Limits.{Held}
use Rattle.engine.specs.Windows.{held, turned, Ending, strays}
use Rattle.engine.specs.Settled.{total}
use Rattle.engine.specs.Scans.{SumsOf}

-- the mark in a record's last bytes
abbrev pub mark_in : ℕ → ℕ
mark_in word = word / 65536 % 256

module _ (width : ℕ) (s : List ℕ) (first : ℕ) where
  pub record Adding (at whole halves threes fours off expected : ℕ) : Type 0 where
    pub left : Left width s at
    pub is_whole : whole + total (λ t. t) (rest width s at left) ≡ total (λ t. t) (held width s)
    pub is_halves : halves + total (λ t. t / 2) (rest width s at left) ≡ total (λ t. t / 2) (held width s)
    pub is_threes : threes + total (λ t. (t + 1) / 4) (rest width s at left) ≡ total (λ t. (t + 1) / 4) (held width s)
    pub is_fours : fours + total (λ t. t / 4) (rest width s at left) ≡ total (λ t. t / 4) (held width s)
    pub is_off : off + strays expected (rest width s at left) ≡ strays first (held width s)
    pub few_whole : whole + 255 * left.k ≤ 7905
    pub few_halves : halves + 255 * left.k ≤ 7905
    pub few_threes : threes + 255 * left.k ≤ 7905
    pub few_fours : fours + 255 * left.k ≤ 7905
    pub few_off : off + left.k ≤ 31
    pub few_expected : expected + 256 * left.k ≤ 73471

  pub adding_start : {n : ℕ} → Held width s n → first < 65536 → Adding 0 0 0 0 0 0 first
  unfolding all_left
  adding_start h l =
      let few : length s / width ≤ 31 = omega (arith, h.count, h.few) in
      record {
        left = all_left width s h.whole;
        is_whole = zero-add _;
        is_halves = zero-add _;
        is_threes = zero-add _;
        is_fours = zero-add _;
        is_off = zero-add _;
        few_whole = omega arith;
        few_halves = omega arith;
        few_threes = omega arith;
        few_fours = omega arith;
        few_off = omega arith;
        few_expected = omega arith;
      }

  -- one value more, and those that are left
  one_value : (f : ℕ → ℕ) (x m all : ℕ) (p : Packet) (ps qs : List Packet) → ps ≡ p ∷ qs → m ≡ p.mark → x + total f ps ≡ all → x + f m + total f qs ≡ all
  unfolding total
  one_value f x m all p ps qs e em h =
      ap (λ (n : ℕ). x + f n + total f qs) em ∙ add_assoc x (f p.mark) (total f qs) ∙ ap (λ (l : List Packet). x + total f l) (sym e) ∙ h

  one_stray : (x d e number all : ℕ) (p : Packet) (ps qs : List Packet) → ps ≡ p ∷ qs → number ≡ turned p.wire.0 → d ≡ bit (not (eqb number e)) → x + strays e ps ≡ all
      → x + d + strays (e + 256) qs ≡ all
  unfolding strays
  one_stray x d e number all p ps qs same en ed h =
      ap (λ (n : ℕ). x + n + strays (e + 256) qs) (ed ∙ ap (λ (n : ℕ). bit (not (eqb n e))) en)
      ∙ add_assoc x (bit (not (eqb (turned p.wire.0) e))) (strays (e + 256) qs) ∙ ap (λ (l : List Packet). x + strays e l) (sym same) ∙ h

  module _ {at whole halves threes fours off expected : ℕ} (c : Adding at whole halves threes fours off expected) (h : at < length s) where
    next : Next width s at c.left
    next = one_left width s at c.left h

    pub adding_room : (whole ≤ 7650) × (halves ≤ 7650) × (threes ≤ 7650) × (fours ≤ 7650) × (off ≤ 30) × (expected ≤ 73215)
    adding_room = (
      omega (arith, c.few_whole, next.one_less),
      omega (arith, c.few_halves, next.one_less),
      omega (arith, c.few_threes, next.one_less),
      omega (arith, c.few_fours, next.one_less),
      omega (arith, c.few_off, next.one_less),
      omega (arith, c.few_expected, next.one_less),
    )

    pub adding_next : (word d : ℕ) → Ending word (packet width s at).wire.0 (packet width s at).mark → d ≡ bit (not (eqb (word % 65536) expected))
        → Adding (at + width) (whole + mark_in word) (halves + mark_in word / 2) (threes + (mark_in word + 1) / 4) (fours + mark_in word / 4) (off + d) (expected + 256)
    adding_next word d e ed =
        let p = packet width s at in
        let ps = rest width s at c.left in
        let qs = rest width s (at + width) next.after in
        let m : mark_in word ≤ 255 = omega arith in
        let one : d ≤ 1 = omega (arith, ed, bit_le (not (eqb (word % 65536) expected))) in
        record {
          left = next.after;
          is_whole = one_value (λ t. t) whole (mark_in word) _ p ps qs next.is e.mark c.is_whole;
          is_halves = one_value (λ t. t / 2) halves (mark_in word) _ p ps qs next.is e.mark c.is_halves;
          is_threes = one_value (λ t. (t + 1) / 4) threes (mark_in word) _ p ps qs next.is e.mark c.is_threes;
          is_fours = one_value (λ t. t / 4) fours (mark_in word) _ p ps qs next.is e.mark c.is_fours;
          is_off = one_stray off d expected (word % 65536) _ p ps qs next.is e.number ed c.is_off;
          few_whole = less whole (mark_in word) c.left.k next.after.k next.one_less m c.few_whole;
          few_halves = less halves (mark_in word / 2) c.left.k next.after.k next.one_less (omega (arith, m)) c.few_halves;
          few_threes = less threes ((mark_in word + 1) / 4) c.left.k next.after.k next.one_less (omega (arith, m)) c.few_threes;
          few_fours = less fours (mark_in word / 4) c.left.k next.after.k next.one_less (omega (arith, m)) c.few_fours;
          few_off = omega (arith, c.few_off, next.one_less, one);
          few_expected = omega (arith, c.few_expected, next.one_less);
        }
      where
        less : (x m k j : ℕ) → k ≡ suc j → m ≤ 255 → x + 255 * k ≤ 7905 → x + m + 255 * j ≤ 7905
        less x m k j e l h = omega arith

  pub adding_end : {at whole halves threes fours off expected : ℕ} → Adding at whole halves threes fours off expected → 1 ≤ width → length s ≤ at
      → SumsOf first (held width s) (record { whole = whole; halves = halves; threes = threes; fours = fours; strays = off })
  unfolding total strays
  adding_end {at} {whole} {halves} {threes} {fours} {off} {expected} c w h =
      let none = none_left width s at c.left w h in
      record {
        whole = sym (add-zero whole) ∙ ap (λ (l : List Packet). whole + total (λ t. t) l) (sym none) ∙ c.is_whole;
        halves = sym (add-zero halves) ∙ ap (λ (l : List Packet). halves + total (λ t. t / 2) l) (sym none) ∙ c.is_halves;
        threes = sym (add-zero threes) ∙ ap (λ (l : List Packet). threes + total (λ t. (t + 1) / 4) l) (sym none) ∙ c.is_threes;
        fours = sym (add-zero fours) ∙ ap (λ (l : List Packet). fours + total (λ t. t / 4) l) (sym none) ∙ c.is_fours;
        strays = sym (add-zero off) ∙ ap (λ (l : List Packet). off + strays expected l) (sym none) ∙ c.is_off;
      }

  -- ---- one sum alone

  pub record AddingFours (at fours : ℕ) : Type 0 where
    pub left : Left width s at
    pub is_fours : fours + total (λ t. t / 4) (rest width s at left) ≡ total (λ t. t / 4) (held width s)
    pub few_fours : fours + 255 * left.k ≤ 7905

  pub fours_start : {n : ℕ} → Held width s n → AddingFours 0 0
  unfolding all_left
  fours_start h =
      let few : length s / width ≤ 31 = omega (arith, h.count, h.few) in
      record { left = all_left width s h.whole; is_fours = zero-add _; few_fours = omega arith }

  pub fours_end : {at fours : ℕ} → AddingFours at fours → 1 ≤ width → length s ≤ at → fours ≡ total (λ t. t / 4) (held width s)
  unfolding total
  fours_end {at} {fours} c w h =
      sym (add-zero fours) ∙ ap (λ (l : List Packet). fours + total (λ t. t / 4) l) (sym (none_left width s at c.left w h)) ∙ c.is_fours

  module _ {at fours : ℕ} (c : AddingFours at fours) (h : at < length s) where
    pub fours_room : fours ≤ 7650
    fours_room = omega (arith, c.few_fours, (one_left width s at c.left h).one_less)

    pub fours_next : (word n : ℕ) → Ending word n (packet width s at).mark → AddingFours (at + width) (fours + mark_in word / 4)
    fours_next word n e =
        let one = one_left width s at c.left h in
        let m : mark_in word ≤ 255 = omega arith in
        record {
          left = one.after;
          is_fours = one_value (λ t. t / 4) fours (mark_in word) _ (packet width s at) (rest width s at c.left) (rest width s (at + width) one.after) one.is e.mark c.is_fours;
          few_fours = omega (arith, c.few_fours, one.one_less, m);
        }
