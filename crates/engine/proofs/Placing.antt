-- The record that a window's bits make is that behind the packets. Assumes nothing.
use Rattle.std.specs.Prelude.{Option, Some, None}
use Rattle.format.specs.declared.Wire.{Wire}
use mathlib.Core.Path.{◌≡◌, refl, sym, ap, ap₂, ◌∙◌}
use mathlib.Core.Logic.{⊎_elim}
use mathlib.Core.Bool.{Bool, true, false, ◌||◌}
use mathlib.Core.List.{List, [], ◌∷◌}
use Prim.Native.Nat.{ℕ, ◌+◌, ◌-◌, ◌/◌, ◌^◌, ◌≤◌, ◌<◌, min}
use native.Mathlib.Nat.{min-le_right, min-eq_left, min-eq_right}
use native.Mathlib.Decide.{dec_le}
use native.Mathlib.Omega.{arith}
use borrow.Author.Tests.{ltb-true, eq-eqb, ne_eqb}
use lib.Bits.{bit_or}
use lib.Count.{ones}
use lib.Dec.{T, eqb, eqb→eq, ltb}
use lib.IntN.{pos, ◌+ℤ◌}
use lib.ListN.{length}
use Rattle.answers.proofs.Conditions.{is_true, true_is, or_cases, or_left, or_right, and_left, and_right}
use Rattle.source.specs.declared.History.{History}
use Rattle.source.specs.declared.Source.{Source}
use Rattle.source.specs.Places.{place, pack, history, marks, moved}
use Rattle.source.specs.Arrivals.{extended}
use Rattle.source.specs.Blocks.{Packet, marks_fit}
use Rattle.source.proofs.Rows.{pack_lt, pack_ext, place_pack, history_ext}
use Rattle.source.proofs.Shifts.{place_above}
use Rattle.source.proofs.Totalled.{length-packets}
use Rattle.engine.specs.declared.scans.Scan.{Scan}
use Rattle.engine.specs.declared.shifts.Shifted.{Shifted}
use Rattle.engine.specs.Limits.{Held}
use Rattle.engine.specs.Windows.{held, below, within, hits, least, strays, found_in}
use Rattle.engine.specs.Settled.{numbered, joined, forgotten, settled_at, settled, lowest, row_with, ShiftedBy, scanned_onto}
use Rattle.engine.specs.Scans.{scan_of}
use Rattle.engine.proofs.Union.{least_le, ones-joined, ones-joined_le}
use Rattle.engine.proofs.Marked.{counts}
use Rattle.engine.proofs.Shifting.{with_highest, lowest_le, trailing_set, trailing_most}

-- ---- the places of packets in the window

module _ (top : ℕ) where
  hits_small : (ps : List Packet) (k : ℕ) → within top ps ≡ true → 64 ≤ k → hits top ps k ≡ false
  unfolding hits
  hits_small [] k w h = refl
  hits_small (p ∷ ps) k w h =
      let l : below top p < 64 = ltb-true (below top p) 64 (and_left (ltb (below top p) 64) _ w) in
      rw (ne_eqb k (below top p) (λ z. omega arith)) (hits_small ps k (and_right (ltb (below top p) 64) _ w) h)

  -- their word has just these places
  place_hits : (ps : List Packet) → within top ps ≡ true → (k : ℕ) → place (pack 64 (hits top ps)) k ≡ hits top ps k
  place_hits ps w k = go (dec_le 64 k)
    where
      go : Dec (64 ≤ k) → place (pack 64 (hits top ps)) k ≡ hits top ps k
      go (yes l) = place_above 64 (pack 64 (hits top ps)) k (pack_lt 64 (hits top ps)) l ∙ sym (hits_small ps k w l)
      go (no l) = place_pack 64 k (hits top ps) (omega arith)

  -- the least place
  least_hits : (ps : List Packet) (a k : ℕ) → T (hits top ps k) → least top a ps ≤ k
  unfolding hits least
  least_hits [] a k t = absurd t
  least_hits (p ∷ ps) a k t =
      ⊎_elim
      (λ u. let z = eqb→eq k (below top p) u in let m = min-le_right a (below top p) in omega (arith, least_le top (min a (below top p)) ps))
      (λ u. least_hits ps (min a (below top p)) k u) (or_cases (eqb k (below top p)) (hits top ps k) t)

  least_at : (ps : List Packet) (a : ℕ) → T (hits top ps (least top a ps) || eqb (least top a ps) a)
  unfolding hits least
  least_at [] a = true_is (eqb a a) (eq-eqb a a refl)
  least_at (p ∷ ps) a =
      ⊎_elim (λ u. or_left (eqb e q || hits top ps e) (eqb e a) (or_right (eqb e q) (hits top ps e) u))
      (λ u. back (eqb→eq e (min a q) u) (dec_le a q)) (or_cases (hits top ps e) (eqb e (min a q)) (least_at ps (min a q)))
    where
      q : ℕ
      q = below top p

      e : ℕ
      e = least top (min a q) ps

      back : e ≡ min a q → Dec (a ≤ q) → T ((eqb e q || hits top ps e) || eqb e a)
      back z (yes l) = or_right (eqb e q || hits top ps e) (eqb e a) (true_is (eqb e a) (eq-eqb e a (z ∙ min-eq_left l)))
      back z (no l) = or_left (eqb e q || hits top ps e) (eqb e a) (or_left (eqb e q) (hits top ps e) (true_is (eqb e q) (eq-eqb e q (z ∙ min-eq_right (omega arith)))))

  -- is where the lowest bit stands
  module _ (ps : List Packet) (w : within top ps ≡ true) where
    abbrev bits : ℕ
    bits = pack 64 (hits top ps)

    lowest_is : lowest bits ≡ least top 40 ps
    lowest_is =
        let e = least top 40 ps in
        let set : place (bit_or bits (2 ^ 40)) e ≡ true =
        with_highest bits e ∙ ap (λ (t : Bool). t || eqb e 40) (place_hits ps w e) ∙ is_true (hits top ps e || eqb e 40) (least_at ps 40) in
        let some : e ≤ 40 = least_le top 40 ps in
        let up : lowest bits ≤ e = trailing_most 64 (bit_or bits (2 ^ 40)) e (omega arith) set in
        let few : lowest bits ≤ 40 = lowest_le bits in
        let here : (hits top ps (lowest bits) || eqb (lowest bits) 40) ≡ true =
        ap (λ (t : Bool). t || eqb (lowest bits) 40) (sym (place_hits ps w (lowest bits))) ∙ sym (with_highest bits (lowest bits)) ∙ trailing_set 64 (bit_or bits (2 ^ 40)) (omega arith) in
        let down : e ≤ lowest bits =
        ⊎_elim (λ u. least_hits ps 40 (lowest bits) u) (λ u. let z = eqb→eq (lowest bits) 40 u in omega arith) (or_cases (hits top ps (lowest bits)) (eqb (lowest bits) 40) (true_is _ here)) in
        omega arith

    row_is : (h : History) (k : ℕ) → row_with bits h k ≡ joined top (40 - least top 40 ps) (least top 40 ps) ps (marks h) k
    row_is h k = ap (λ (e : ℕ). moved (40 - e) (marks h) k || place bits (e + k)) lowest_is ∙ ap (λ (t : Bool). moved (40 - least top 40 ps) (marks h) k || t) (place_hits ps w (least top 40 ps + k))

-- ---- the record

forgets : (ps : List Packet) (r : Option Wire) → 1 ≤ length ps → None ≡ forgotten ps r
forgets [] r h = absurd (omega arith)
forgets (p ∷ ps) r h = refl

-- so many places more, or so many duplicates
fewer : (d n v o x : ℕ) → x ≡ v - o → o ≤ v → v ≤ n + o → d + (n - x) ≡ d + (n + o - v)
fewer d n v o x e h l = omega arith

pub record ScanIs (n : ℕ) (ps : List Packet) (scan : Scan) : Type 0 where
  pub notect : scan.notect ≡ numbered 0 ps
  pub ect1 : scan.ect1 ≡ numbered 1 ps
  pub ect0 : scan.ect0 ≡ numbered 2 ps
  pub ce : scan.ce ≡ numbered 3 ps
  pub size : length ps ≡ n
  pub some : 1 ≤ n
  pub sum : scan.notect + scan.ect1 + scan.ect0 + scan.ce ≡ n

module _ (top : ℕ) (s : Source) (n : ℕ) (scan : Scan) (shifted : Shifted) (ps : List Packet) (w : within top ps ≡ true) (of : ScanIs n ps scan) (by : ShiftedBy s.history (pack 64 (hits top ps)) shifted) where
  abbrev e : ℕ
  e = least top 40 ps

  abbrev old : ℕ
  old = ones (pack 64 (moved (40 - e) (marks s.history)))

  abbrev new : ℕ
  new = ones (pack 64 (joined top (40 - e) e ps (marks s.history)))

  up_is : shifted.up ≡ 40 - e
  up_is = by.up ∙ ap (λ (x : ℕ). 40 - x) (lowest_is top ps w)

  history_is : shifted.history ≡ history (joined top (40 - e) e ps (marks s.history))
  history_is = by.history ∙ history_ext (row_with (pack 64 (hits top ps)) s.history) (joined top (40 - e) e ps (marks s.history)) (λ k l. row_is top ps w s.history k)

  more_is : shifted.more ≡ new - old
  more_is =
      by.more
      ∙ ap₂ (λ (x y : ℕ). ones x - ones y)
      (pack_ext 64 (row_with (pack 64 (hits top ps)) s.history) (joined top (40 - e) e ps (marks s.history)) (λ k l. row_is top ps w s.history k))
      (ap (λ (x : ℕ). pack 64 (moved (40 - x) (marks s.history))) (lowest_is top ps w))

  pub up_few : shifted.up ≤ 40
  up_few = omega (arith, up_is)

  bound : new ≤ n + old
  bound = omega (arith, ones-joined top (40 - e) e ps (marks s.history), of.size)

  pub more_few : shifted.more ≤ n
  more_few = omega (arith, more_is, bound)

  pub settled_is : scanned_onto s n scan shifted ≡ settled top 40 s ps
  unfolding settled_at
  settled_is =
      λ i. record {
        base = s.base;
        highest = extended (s.highest.0 +ℤ pos (up_is i));
        notect = s.notect + of.notect i;
        ect1 = s.ect1 + of.ect1 i;
        ect0 = s.ect0 + of.ect0 i;
        ce = s.ce + of.ce i;
        duplicates = (fewer s.duplicates n new old shifted.more more_is (ones-joined_le 64 (moved (40 - e) (marks s.history)) (λ k. hits top ps (e + k))) bound
            ∙ ap (λ (x : ℕ). s.duplicates + (x + old - new)) (sym of.size)) i;
        history = history_is i;
        remembered = forgets ps s.remembered (some_packets (length ps) of.size of.some) i;
      }
    where
      some_packets : (x : ℕ) → x ≡ n → 1 ≤ n → 1 ≤ x
      some_packets x e h = omega arith

-- what a scan shows
module _ (width : ℕ) (s : List ℕ) (n first : ℕ) (h : Held width s n) (scan : Scan) (of : Some scan ≡ scan_of first (held width s)) where
  pub scan_fit : marks_fit (held width s) ≡ true
  scan_fit = go (marks_fit (held width s)) refl
    where
      go : (b : Bool) → marks_fit (held width s) ≡ b → b ≡ true
      go true e = refl
      go false e =
          let no : Some scan ≡ None = of ∙ rw e refl in
          let z : ◌≡◌ {A = ℕ} 0 1 = cc in absurd (omega arith)

  scan_is : scan ≡ record { notect = numbered 0 (held width s); ect1 = numbered 1 (held width s); ect0 = numbered 2 (held width s); ce = numbered 3 (held width s); strays = strays first (held width s) }
  scan_is =
      let yes-fit : Some scan ≡ Some (record { notect = numbered 0 (held width s); ect1 = numbered 1 (held width s); ect0 = numbered 2 (held width s); ce = numbered 3 (held width s); strays = strays first (held width s) }) = of ∙ rw scan_fit refl in
      cc

  pub scan_strays : scan.strays ≡ strays first (held width s)
  scan_strays = ap (λ (x : Scan). x.strays) scan_is

  pub scan_of_lem : ScanIs n (held width s) scan
  scan_of_lem =
      let c = counts (held width s) scan_fit in
      let size = length-packets width (length s / width) s ∙ h.count in
      let a = ap (λ (x : Scan). x.notect) scan_is in
      let b = ap (λ (x : Scan). x.ect1) scan_is in
      let d = ap (λ (x : Scan). x.ect0) scan_is in
      let f = ap (λ (x : Scan). x.ce) scan_is in
      record { notect = a; ect1 = b; ect0 = d; ce = f; size = size; some = h.some; sum = omega (arith, c.all) }

-- what is found decides
pub found_at : (top b : ℕ) (ps : List Packet) → Some b ≡ found_in top ps → (within top ps ≡ true) × (b ≡ pack 64 (hits top ps))
found_at top b ps e = go (within top ps) refl
  where
    go : (t : Bool) → within top ps ≡ t → (t ≡ true) × (b ≡ pack 64 (hits top ps))
    go true w =
        let is : Some b ≡ Some (pack 64 (hits top ps)) = e ∙ rw w refl in
        (refl, cc)
    go false w =
        let no : Some b ≡ None = e ∙ rw w refl in
        let z : ◌≡◌ {A = ℕ} 0 1 = cc in absurd (omega arith)

pub found_none : (top : ℕ) (ps : List Packet) → None ≡ found_in top ps → within top ps ≡ false
found_none top ps e = go (within top ps) refl
  where
    go : (t : Bool) → within top ps ≡ t → t ≡ false
    go false w = refl
    go true w =
        let no : None ≡ Some (pack 64 (hits top ps)) = e ∙ rw w refl in
        let z : ◌≡◌ {A = ℕ} 0 1 = cc in absurd (omega arith)
