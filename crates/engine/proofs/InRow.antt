-- Packets whose numbers follow each other: the places at which they lie. Assumes nothing.
use Rattle.std.specs.Prelude.{Some}
use mathlib.Core.Path.{◌≡◌, refl, sym, ap, ◌∙◌}
use mathlib.Core.Logic.{⊎_elim}
use mathlib.Core.Bool.{Bool, true, false, not, ◌&&◌, ◌||◌}
use mathlib.Core.List.{List, [], ◌∷◌}
use Prim.Native.Nat.{ℕ, zero, suc, ◌+◌, ◌-◌, ◌*◌, ◌/◌, ◌%◌, ◌^◌, ◌≤◌, ◌<◌}
use native.Mathlib.Nat.{pow-suc, mod-lt}
use native.Mathlib.Decide.{dec_le}
use native.Mathlib.Omega.{arith}
use borrow.Author.Tests.{lt-ltb, le-ltb, le-leb, lt-leb, ltb-true, leb-true, eq-eqb, eqb-true}
use lib.Dec.{T, eqb, eqb→eq, leb, ltb}
use lib.ListN.{length, drop}
use lib.Seq.{get_or-drop}
use lib.Pow.{pow_pos}
use Rattle.answers.proofs.Conditions.{same_test, is_true, true_is, and_left, and_right, both, or_cases, or_left, or_right}
use Rattle.source.specs.Places.{bit, place, pack}
use Rattle.numbers.specs.BigEndian.{word}
use Rattle.numbers.proofs.BigEndian.{Octets, word_lt}
use Rattle.source.specs.Blocks.{Packet, packets}
use Rattle.source.proofs.Rows.{pack_ext, pack_unique, place_low, place_next}
use Rattle.source.proofs.Shifts.{place_zero, place_mod, place_mul}
use Rattle.engine.specs.Limits.{Held}
use Rattle.engine.specs.Windows.{held, below, within, hits, wired, turned, strays, found_in, row_from}

-- ---- tests

le_of : (a b : ℕ) → T (leb a b) → a ≤ b
le_of a b t = leb-true a b (is_true (leb a b) t)

of_le : (a b : ℕ) → a ≤ b → T (leb a b)
of_le a b l = true_is (leb a b) (le-leb a b l)

-- ---- numbers that follow each other

pub InRow : ℕ → List Packet → Type 0
InRow w [] = Unit {0}
InRow w (p ∷ ps) = (p.wire.0 ≡ w) × InRow (w + 1) ps

-- none is astray
untangled : (x a b : ℕ) → x < 65536 → a < 256 → x / 256 + x % 256 * 256 ≡ a + b * 256 → x ≡ a * 256 + b
untangled x a b h l e = omega arith

no_strays : (ps : List Packet) (a b : ℕ) → a < 256 → wired ps ≡ true → strays (a + b * 256) ps ≡ 0 → InRow (a * 256 + b) ps
unfolding InRow strays
no_strays [] a b l w e = tt
no_strays (p ∷ ps) a b l w e =
    let x : p.wire.0 < 65536 = ltb-true p.wire.0 65536 (and_left (ltb p.wire.0 65536) _ w) in
    let same : turned p.wire.0 ≡ a + b * 256 = as_expected (eqb (turned p.wire.0) (a + b * 256)) refl (omega arith) in
    let step : a + b * 256 + 256 ≡ a + (b + 1) * 256 = omega arith in
    let others : strays (a + (b + 1) * 256) ps ≡ 0 = ap (λ (n : ℕ). strays n ps) (sym step) ∙ none in
    let number : a * 256 + (b + 1) ≡ a * 256 + b + 1 = omega arith in
    (untangled p.wire.0 a b x l same, rw (sym number) (no_strays ps a (b + 1) l (and_right (ltb p.wire.0 65536) _ w) others))
  where
    none : strays (a + b * 256 + 256) ps ≡ 0
    none = omega arith

    as_expected : (t : Bool) → eqb (turned p.wire.0) (a + b * 256) ≡ t → bit (not t) ≡ 0 → turned p.wire.0 ≡ a + b * 256
    as_expected true e z = eqb-true (turned p.wire.0) (a + b * 256) e
    as_expected false e z = absurd (omega arith)

-- ---- where they lie

module _ (top : ℕ) where
  place_after : (w q : ℕ) → w < 65536 → suc q ≡ (top + 65536 - w) % 65536 → q ≡ (top + 65536 - (w + 1)) % 65536
  place_after w q h e = omega arith

  place_wraps : (w : ℕ) → w < 65536 → 0 ≡ (top + 65536 - w) % 65536 → 64 ≤ (top + 65536 - (w + 1)) % 65536
  place_wraps w h e = omega arith

  -- beyond the top
  beyond : (ps : List Packet) (w : ℕ) → InRow (w + 1) ps → 64 ≤ (top + 65536 - (w + 1)) % 65536 → within top ps ≡ leb (suc (length ps)) 1
  unfolding InRow
  beyond [] w r h = refl
  beyond (p ∷ ps) w r h =
      let far : 64 ≤ below top p = rw r.0 h in
      rw (le-ltb (below top p) 64 far) (sym (lt-leb (suc (suc (length ps))) 1 (omega arith)))

  pub row_within : (ps : List Packet) (w q : ℕ) → InRow w ps → wired ps ≡ true → q ≡ (top + 65536 - w) % 65536 → q < 64 → within top ps ≡ leb (length ps) (q + 1)
  unfolding InRow
  row_within [] w q r n e l = sym (le-leb 0 (q + 1) (omega arith))
  row_within (p ∷ ps) w zero r n e l =
      let wire : p.wire.0 < 65536 = ltb-true p.wire.0 65536 (and_left (ltb p.wire.0 65536) _ n) in
      let here : below top p ≡ 0 = ap (λ (x : ℕ). (top + 65536 - x) % 65536) r.0 ∙ sym e in
      let small : w < 65536 = omega (arith, r.0, wire) in
      rw here (beyond ps w r.1 (place_wraps w small e))
  row_within (p ∷ ps) w (suc q) r n e l =
      let wire : p.wire.0 < 65536 = ltb-true p.wire.0 65536 (and_left (ltb p.wire.0 65536) _ n) in
      let here : below top p ≡ suc q = ap (λ (x : ℕ). (top + 65536 - x) % 65536) r.0 ∙ sym e in
      let small : w < 65536 = omega (arith, r.0, wire) in
      rw (here, lt-ltb (suc q) 64 l)
      (row_within ps (w + 1) q r.1 (and_right (ltb p.wire.0 65536) _ n) (place_after w q small e) (omega arith) ∙ one_both (length ps) q)
    where
      one_both : (n q : ℕ) → leb n (q + 1) ≡ leb (suc n) (suc q + 1)
      one_both n q = same_test (leb n (q + 1)) (leb (suc n) (suc q + 1))
          (λ t. let l = le_of n (q + 1) t in of_le (suc n) (suc q + 1) (omega arith))
          (λ t. let l = le_of (suc n) (suc q + 1) t in of_le n (q + 1) (omega arith))

  -- place k, of n numbers from place q on
  abbrev among : ℕ → ℕ → ℕ → Bool
  among n q k = leb k q && leb (q + 1) (k + n)

  among_le : (n q k : ℕ) → T (among n q k) → (k ≤ q) × (q + 1 ≤ k + n)
  among_le n q k t =
      let e = is_true (among n q k) t in
      (leb-true k q (and_left (leb k q) (leb (q + 1) (k + n)) e), leb-true (q + 1) (k + n) (and_right (leb k q) (leb (q + 1) (k + n)) e))

  le_among : (n q k : ℕ) → k ≤ q → q + 1 ≤ k + n → T (among n q k)
  le_among n q k a b = both (leb k q) (leb (q + 1) (k + n)) (of_le k q a) (of_le (q + 1) (k + n) b)

  none_among : (q k : ℕ) → false ≡ among 0 q k
  none_among q k = same_test false (among 0 q k) (λ t. absurd t) (λ t. let a = among_le 0 q k t in absurd (omega arith))

  one_among : (k : ℕ) → (eqb k 0 || false) ≡ among 1 0 k
  one_among k = same_test (eqb k 0 || false) (among 1 0 k)
      (λ t. ⊎_elim (λ u. let z = eqb→eq k 0 u in le_among 1 0 k (omega arith) (omega arith)) (λ u. absurd u) (or_cases (eqb k 0) false t))
      (λ t. let a = among_le 1 0 k t in or_left (eqb k 0) false (true_is (eqb k 0) (eq-eqb k 0 (omega arith))))

  next_among : (n q k : ℕ) → (eqb k (suc q) || among n q k) ≡ among (suc n) (suc q) k
  next_among n q k = same_test (eqb k (suc q) || among n q k) (among (suc n) (suc q) k)
      (λ t. ⊎_elim (λ u. let z = eqb→eq k (suc q) u in le_among (suc n) (suc q) k (omega arith) (omega arith))
      (λ u. let a = among_le n q k u in le_among (suc n) (suc q) k (omega arith) (omega arith)) (or_cases (eqb k (suc q)) (among n q k) t))
      (λ t. let a = among_le (suc n) (suc q) k t in back a (dec_le k q))
    where
      back : (k ≤ suc q) × (suc q + 1 ≤ k + suc n) → Dec (k ≤ q) → T (eqb k (suc q) || among n q k)
      back a (yes l) = or_right (eqb k (suc q)) (among n q k) (le_among n q k l (omega arith))
      back a (no l) = or_left (eqb k (suc q)) (among n q k) (true_is (eqb k (suc q)) (eq-eqb k (suc q) (omega arith)))

  pub row_hits : (ps : List Packet) (w q : ℕ) → InRow w ps → wired ps ≡ true → q ≡ (top + 65536 - w) % 65536 → q < 64 → length ps ≤ q + 1
      → (k : ℕ) → hits top ps k ≡ among (length ps) q k
  unfolding InRow hits
  row_hits [] w q r n e l f k = none_among q k
  row_hits (p ∷ []) w zero r n e l f k =
      let here : below top p ≡ 0 = ap (λ (x : ℕ). (top + 65536 - x) % 65536) r.0 ∙ sym e in
      rw here (one_among k)
  row_hits (p ∷ o ∷ ps) w zero r n e l f k = absurd (omega arith)
  row_hits (p ∷ ps) w (suc q) r n e l f k =
      let wire : p.wire.0 < 65536 = ltb-true p.wire.0 65536 (and_left (ltb p.wire.0 65536) _ n) in
      let here : below top p ≡ suc q = ap (λ (x : ℕ). (top + 65536 - x) % 65536) r.0 ∙ sym e in
      let small : w < 65536 = omega (arith, r.0, wire) in
      ap (λ (x : ℕ). eqb k x || hits top ps k) here
      ∙ ap (λ (t : Bool). eqb k (suc q) || t) (row_hits ps (w + 1) q r.1 (and_right (ltb p.wire.0 65536) _ n) (place_after w q small e) (omega arith) (omega arith) k)
      ∙ next_among (length ps) q k

  -- so this is what is found
  pub row_found : (ps : List Packet) (w q : ℕ) → w < 65536 → wired ps ≡ true → strays (turned w) ps ≡ 0 → q ≡ (top + 65536 - w) % 65536 → q < 64 → row_from (length ps) q ≡ found_in top ps
  row_found ps w q h n none e l =
      let whole : w / 256 * 256 + w % 256 ≡ w = omega arith in
      let row : InRow w ps = rw whole at (no_strays ps (w / 256) (w % 256) (omega arith) n none) in
      go row (leb (length ps) (q + 1)) refl
    where
      go : InRow w ps → (b : Bool) → leb (length ps) (q + 1) ≡ b → row_from (length ps) q ≡ found_in top ps
      go row true f =
          let same = row_within ps w q row n e l ∙ f in
          let places : pack 64 (among (length ps) q) ≡ pack 64 (hits top ps) =
          pack_ext 64 (among (length ps) q) (hits top ps) (λ k m. sym (row_hits ps w q row n e l (leb-true (length ps) (q + 1) f) k)) in
          rw (f, same) (ap Some places)
      go row false f = let same = row_within ps w q row n e l ∙ f in rw (f, same)

-- ---- their bits

place_ones : (n k : ℕ) → place (2 ^ n - 1) k ≡ ltb k n
place_ones zero k = place_zero k ∙ sym (le-ltb k 0 (omega arith))
place_ones (suc n) zero =
    let p = pow_pos n in
    let odd : (2 ^ suc n - 1) % 2 ≡ 1 = omega (arith, pow-suc 2 n) in
    place_low (2 ^ suc n - 1) ∙ ap (λ (x : ℕ). eqb x 1) odd ∙ sym (lt-ltb 0 (suc n) (omega arith))
place_ones (suc n) (suc k) =
    let p = pow_pos n in
    let half : (2 ^ suc n - 1) / 2 ≡ 2 ^ n - 1 = omega (arith, pow-suc 2 n) in
    place_next (2 ^ suc n - 1) k ∙ ap (λ (x : ℕ). place x k) half ∙ place_ones n k ∙ lower
  where
    lower : ltb k n ≡ ltb (suc k) (suc n)
    lower = same_test (ltb k n) (ltb (suc k) (suc n))
        (λ t. let l = ltb-true k n (is_true (ltb k n) t) in true_is (ltb (suc k) (suc n)) (lt-ltb (suc k) (suc n) (omega arith)))
        (λ t. let l = ltb-true (suc k) (suc n) (is_true (ltb (suc k) (suc n)) t) in true_is (ltb k n) (lt-ltb k n (omega arith)))

-- n ones moved up by d
pub row_bits : (n d q : ℕ) → d + n ≡ q + 1 → q < 64 → (2 ^ n - 1) * 2 ^ d % 2 ^ 64 ≡ pack 64 (λ k. leb k q && leb (q + 1) (k + n))
row_bits n d q e l =
    pack_unique 64 ((2 ^ n - 1) * 2 ^ d % 2 ^ 64) (λ k. leb k q && leb (q + 1) (k + n)) (mod-lt ((2 ^ n - 1) * 2 ^ d) (pow_pos 64))
    (λ k m. place_mod 64 ((2 ^ n - 1) * 2 ^ d) k m ∙ place_mul d (2 ^ n - 1) k ∙ ap (λ (t : Bool). leb d k && t) (place_ones n (k - d)) ∙ same k)
  where
    same : (k : ℕ) → (leb d k && ltb (k - d) n) ≡ (leb k q && leb (q + 1) (k + n))
    same k = same_test (leb d k && ltb (k - d) n) (leb k q && leb (q + 1) (k + n))
        (λ t.
        let e' = is_true (leb d k && ltb (k - d) n) t in
        let a = leb-true d k (and_left (leb d k) (ltb (k - d) n) e') in
        let b = ltb-true (k - d) n (and_right (leb d k) (ltb (k - d) n) e') in
        both (leb k q) (leb (q + 1) (k + n)) (of_le k q (omega arith)) (of_le (q + 1) (k + n) (omega arith)))
        (λ t.
        let e' = is_true (leb k q && leb (q + 1) (k + n)) t in
        let a = leb-true k q (and_left (leb k q) (leb (q + 1) (k + n)) e') in
        let b = leb-true (q + 1) (k + n) (and_right (leb k q) (leb (q + 1) (k + n)) e') in
        both (leb d k) (ltb (k - d) n) (of_le d k (omega arith)) (true_is (ltb (k - d) n) (lt-ltb (k - d) n (omega arith))))

-- ---- the packets of bytes

pub packets_wired : (width n : ℕ) (s : List ℕ) → Octets s → wired (packets width n s) ≡ true
unfolding packets
packets_wired width zero s o = refl
packets_wired width (suc n) s o =
    rw (lt-ltb (word 2 s (width - 4)) 65536 (word_lt s (width - 4) 2 o)) (packets_wired width n (drop width s) (λ i. rw (get_or-drop width s i 0) (o (width + i))))

-- the first lies outside
pub first_outside : (top width : ℕ) (s : List ℕ) (n : ℕ) → Held width s n → 64 ≤ (top + 65536 - word 2 s (width - 4)) % 65536 → within top (held width s) ≡ false
unfolding packets
first_outside top width s n h l = go (length s / width) (omega (arith, h.some, h.count))
  where
    go : (k : ℕ) → 1 ≤ k → within top (packets width k s) ≡ false
    go zero m = absurd (omega arith)
    go (suc k) m = rw (le-ltb ((top + 65536 - word 2 s (width - 4)) % 65536) 64 l)
