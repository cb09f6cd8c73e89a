-- The places of a part's packets, one after the other: what is left of them. Assumes nothing.
use mathlib.Core.Path.{◌≡◌, refl, sym, ap, ◌∙◌}
use mathlib.Core.Bool.{Bool, true, ◌&&◌, ◌||◌, or_assoc, or-false, and_assoc, and-true}
use mathlib.Core.List.{List}
use Prim.Native.Nat.{ℕ, ◌+◌, ◌-◌, ◌*◌, ◌%◌, ◌^◌, ◌≤◌, ◌<◌}
use native.Mathlib.Nat.{mod-lt}
use native.Mathlib.Omega.{arith}
use borrow.Author.Tests.{lt-ltb, ltb-true}
use lib.Bits.{bit_or, or_mod, or_lt, or_add_and, and_le_l, and_le_r}
use lib.Dec.{eqb, ltb}
use lib.ListN.{length}
use lib.Pow.{pow_pos}
use Rattle.answers.proofs.Conditions.{same_test, is_true, true_is, and_left, and_right, both}
use Rattle.source.specs.Places.{place}
use Rattle.source.specs.Blocks.{Packet}
use Rattle.source.proofs.Rows.{pack_unique}
use Rattle.source.proofs.Shifts.{place_zero, place_or, place_bit, one_shl}
use Rattle.source.proofs.Packets.{packet, Left, rest, all_left, none_left, Next, one_left}
use Rattle.engine.specs.Limits.{Held}
use Rattle.engine.specs.Windows.{held, below, within, hits, SeenIn}

-- two numbers joined are small where both are
or_small : (x y : ℕ) → ltb (bit_or x y) 64 ≡ (ltb x 64 && ltb y 64)
or_small x y =
    let sum = or_add_and x y in
    let left = and_le_l x y in
    let right = and_le_r x y in
    same_test (ltb (bit_or x y) 64) (ltb x 64 && ltb y 64)
    (λ t.
    let l = ltb-true (bit_or x y) 64 (is_true (ltb (bit_or x y) 64) t) in
    both (ltb x 64) (ltb y 64) (true_is (ltb x 64) (lt-ltb x 64 (omega arith))) (true_is (ltb y 64) (lt-ltb y 64 (omega arith))))
    (λ t.
    let e = is_true (ltb x 64 && ltb y 64) t in
    let a = ltb-true x 64 (and_left (ltb x 64) (ltb y 64) e) in
    let b = ltb-true y 64 (and_right (ltb x 64) (ltb y 64) e) in
    true_is (ltb (bit_or x y) 64) (lt-ltb (bit_or x y) 64 (or_lt 6 x y a b)))

low_bits : (x : ℕ) → x % 65536 < 64 → x % 64 ≡ x % 65536
low_bits x l = omega arith

module _ (width : ℕ) (s : List ℕ) (top : ℕ) where
  pub record Looking (at bits joined : ℕ) : Type 0 where
    pub left : Left width s at
    pub near : (ltb (joined % 65536) 64 && within top (rest width s at left)) ≡ within top (held width s)
    pub fits : bits < 2 ^ 64
    pub spots : within top (held width s) ≡ true → (k : ℕ) → k < 64 → (place bits k || hits top (rest width s at left) k) ≡ hits top (held width s) k

  pub looking_start : {n : ℕ} → Held width s n → Looking 0 0 0
  unfolding all_left
  looking_start h = record {
    left = all_left width s h.whole;
    near = refl;
    fits = omega arith;
    spots = λ e k l. ap (λ (t : Bool). t || hits top (held width s) k) (place_zero k);
  }

  module _ {at bits joined : ℕ} (c : Looking at bits joined) (h : at < length s) where
    next : Next width s at c.left
    next = one_left width s at c.left h

    abbrev p : Packet
    p = packet width s at

    pub looking_next : (x : ℕ) → x ≡ top + 65536 - (packet width s at).wire.0 → Looking (at + width) (bit_or bits (1 * 2 ^ (x % 64) % 2 ^ 64)) (bit_or joined x)
    unfolding hits
    looking_next x e = record {
      left = next.after;
      near = ap (λ (t : Bool). t && within top others) (ap (λ (n : ℕ). ltb n 64) (or_mod joined x 16) ∙ or_small (joined % 65536) (x % 65536))
          ∙ and_assoc (ltb (joined % 65536) 64) (ltb (x % 65536) 64) (within top others) ∙ ap (λ (n : ℕ). ltb (joined % 65536) 64 && (ltb (n % 65536) 64 && within top others)) e
          ∙ ap (λ (l : List Packet). ltb (joined % 65536) 64 && within top l) (sym next.is) ∙ c.near;
      fits = or_lt 64 bits (1 * 2 ^ (x % 64) % 2 ^ 64) c.fits (mod-lt (1 * 2 ^ (x % 64)) (pow_pos 64));
      spots = λ w k l. spot w k l;
    }
      where
        others : List Packet
        others = rest width s (at + width) next.after

        -- the packet lies in the window where all do
        inside : within top (held width s) ≡ true → x % 64 ≡ below top p
        inside w =
            let all : (ltb (joined % 65536) 64 && within top (rest width s at c.left)) ≡ true = c.near ∙ w in
            let these : within top (rest width s at c.left) ≡ true = and_right (ltb (joined % 65536) 64) _ all in
            let this : (ltb (below top p) 64 && within top others) ≡ true = ap (within top) (sym next.is) ∙ these in
            let l : below top p < 64 = ltb-true (below top p) 64 (and_left (ltb (below top p) 64) _ this) in
            ap (λ (n : ℕ). n % 64) e ∙ low_bits (top + 65536 - p.wire.0) l

        spot : within top (held width s) ≡ true → (k : ℕ) → k < 64 → (place (bit_or bits (1 * 2 ^ (x % 64) % 2 ^ 64)) k || hits top others k) ≡ hits top (held width s) k
        spot w k l =
            ap (λ (t : Bool). t || hits top others k)
            (ap (λ (n : ℕ). place (bit_or bits n) k) (one_shl (x % 64) (omega arith)) ∙ place_or bits (2 ^ (x % 64)) k ∙ ap (λ (t : Bool). place bits k || t) (place_bit (x % 64) k ∙ ap (eqb k) (inside w)))
            ∙ or_assoc (place bits k) (eqb k (below top p)) (hits top others k)
            ∙ ap (λ (l : List Packet). place bits k || hits top l k) (sym next.is) ∙ c.spots w k l

  pub looking_end : {at bits joined : ℕ} → Looking at bits joined → 1 ≤ width → length s ≤ at → SeenIn top (held width s) (record { bits = bits; joined = joined % 65536 })
  unfolding hits
  looking_end {at} {bits} {joined} c w h =
      let none = none_left width s at c.left w h in
      record {
        joined = sym (and-true (ltb (joined % 65536) 64)) ∙ ap (λ (l : List Packet). ltb (joined % 65536) 64 && within top l) (sym none) ∙ c.near;
        bits = λ e. pack_unique 64 bits (hits top (held width s)) c.fits
            (λ k l. sym (or-false (place bits k)) ∙ ap (λ (l : List Packet). place bits k || hits top l k) (sym none) ∙ c.spots e k l);
      }
