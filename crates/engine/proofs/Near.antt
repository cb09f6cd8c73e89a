-- One packet within the window of a record that has counted: it is accepted, and what it leaves. Assumes nothing.
use mathlib.Core.Path.{◌≡◌, refl, sym, ap, ap₂, ◌∙◌}
use mathlib.Core.Bool.{Bool, true}
use Prim.Native.Nat.{ℕ, ◌+◌, ◌-◌, ◌*◌, ◌%◌, ◌^◌, ◌≤◌, ◌<◌, min}
use native.Mathlib.Nat.{min-eq_left, min-eq_right, add-zero}
use native.Mathlib.Decide.{dec_le}
use native.Mathlib.Omega.{arith}
use lib.IntN.{ℤ, pos, ◌+ℤ◌, ◌-ℤ◌, +ℤ_idr}
use Rattle.numbers.specs.Integers.{modulo}
use Rattle.numbers.proofs.Integers.{minus_pos, minus_neg}
use Rattle.source.specs.declared.Extended.{Extended}
use Rattle.source.specs.declared.Source.{Source}
use Rattle.source.specs.declared.Arrival.TheVariants.{Accepted}
use Rattle.source.specs.declared.distances.Reach.TheVariants as reach
use Rattle.source.specs.Distances.{reach_of}
use Rattle.source.specs.Places.{bit, history, marks, moved, added}
use Rattle.source.specs.Record.{arrivals, sound}
use Rattle.source.specs.Arrivals.{extended, counted, ahead, behind, distance, later_by, later, arrival}
use Rattle.source.specs.Blocks.{Packet}
use Rattle.source.proofs.Rows.{moved_low}
use Rattle.source.proofs.Shifts.{moved_none}
use Rattle.source.proofs.Reached.{reach_level, reach_ahead, reach_behind}
use Rattle.source.proofs.Answers.{arrival_later}
use Rattle.engine.specs.Windows.{below}

-- the record with its highest number u higher and place j marked
abbrev pub raised_by : ℕ → ℕ → Source → ℕ → Source
raised_by u j s mark =
    counted s mark s.base (extended (s.highest.0 +ℤ pos u)) (s.duplicates + bit (moved u (marks s.history) j))
    (history (added j (moved u (marks s.history))))

module _ (s : Source) (mark : ℕ) where
  raised_ahead : (u : ℕ) → 1 ≤ u → ahead s u mark ≡ raised_by u 0 s mark
  unfolding ahead
  raised_ahead u h =
      let same : s.duplicates ≡ s.duplicates + bit (moved u (marks s.history) 0) = rw (moved_low u 0 (marks s.history) h) (sym (add-zero s.duplicates)) in
      ap (λ (n : ℕ). counted s mark s.base (extended (s.highest.0 +ℤ pos u)) n (history (added 0 (moved u (marks s.history))))) same

  raised_behind : (j : ℕ) → behind s j mark ≡ raised_by 0 j s mark
  unfolding behind
  raised_behind j =
      ap₂ (λ (h : Extended) (row : ℕ → Bool). counted s mark s.base h (s.duplicates + bit (row j)) (history (added j row)))
      (ap extended (sym (+ℤ_idr s.highest.0))) (sym (moved_none (marks s.history)))

-- the distance from a highest number that is natural
pub distance_nat : (w h : ℕ) → w < 65536 → modulo 65536 (pos w -ℤ pos h) ≡ (w + 65536 - h % 65536) % 65536
distance_nat w h l = go (dec_le h w)
  where
    go : Dec (h ≤ w) → modulo 65536 (pos w -ℤ pos h) ≡ (w + 65536 - h % 65536) % 65536
    go (yes g) = ap (modulo 65536) (minus_pos w h g) ∙ omega arith
    go (no g) = ap (modulo 65536) (minus_neg w h (omega arith)) ∙ omega arith

-- the highest number lies at place a of the window, and the packet at place q
module _ (top a h w c : ℕ) (small : a ≤ 40) (anchor : h + a ≡ top + 65536 * c) (l : w < 65536) (q : ℕ) (at : q ≡ (top + 65536 - w) % 65536) (near : q < 64) where
  pub above : q < a → (w + 65536 - h % 65536) % 65536 ≡ a - q
  above g = omega arith

  pub level : q ≡ a → (w + 65536 - h % 65536) % 65536 ≡ 0
  level g = omega arith

  pub beneath : a < q → (w + 65536 - h % 65536) % 65536 ≡ 65536 - (q - a)
  beneath g = omega arith

module _ (top a c : ℕ) (small : a ≤ 40) (s : Source) (h : ℕ) (high : s.highest.0 ≡ pos h) (anchor : h + a ≡ top + 65536 * c) (p : Packet) (l : p.wire.0 < 65536) (near : below top p < 64) where
  q : ℕ
  q = below top p

  far : ℕ
  far = (p.wire.0 + 65536 - h % 65536) % 65536

  distance_is : distance s.highest p.wire ≡ far
  unfolding distance far
  distance_is = ap (λ (z : ℤ). modulo 65536 (pos p.wire.0 -ℤ z)) high ∙ distance_nat p.wire.0 h l

  -- at most so far above it, and at most so far below it
  reach_above : q < a → reach_of far ≡ reach.Ahead (a - q)
  unfolding q far
  reach_above g =
      let e : far ≡ a - q = above top a h p.wire.0 c small anchor l (below top p) refl near g in
      ap reach_of e ∙ reach_ahead (a - q) (omega arith) (omega arith)

  reach_below : a ≤ q → reach_of far ≡ reach.Behind (q - a)
  unfolding q far
  reach_below g = go (dec_le q a)
    where
      go : Dec (q ≤ a) → reach_of far ≡ reach.Behind (q - a)
      go (yes g') =
          let e : far ≡ 0 = level top a h p.wire.0 c small anchor l (below top p) refl near (omega arith) in
          let z : 0 ≡ below top p - a = omega arith in
          ap reach_of e ∙ reach_level ∙ ap reach.Behind z
      go (no g') =
          let e : far ≡ 65536 - (below top p - a) = beneath top a h p.wire.0 c small anchor l (below top p) refl near (omega arith) in
          let z : 65536 - (65536 - (below top p - a)) ≡ below top p - a = omega arith in
          ap reach_of e ∙ reach_behind (65536 - (below top p - a)) (omega arith) (omega arith) ∙ ap reach.Behind z

  pub near_later : later s p.wire p.mark ≡ Accepted (raised_by (a - min a (below top p)) (below top p - min a (below top p)) s p.mark)
  unfolding q
  near_later = ap (λ (d : ℕ). later_by s p.wire p.mark (reach_of d)) distance_is ∙ go (dec_le a (below top p))
    where
      go : Dec (a ≤ below top p) → later_by s p.wire p.mark (reach_of far) ≡ Accepted (raised_by (a - min a (below top p)) (below top p - min a (below top p)) s p.mark)
      go (yes g) =
          let e : min a (below top p) ≡ a = min-eq_left g in
          let z : a - a ≡ 0 = omega arith in
          ap (later_by s p.wire p.mark) (reach_below g) ∙ rw (e, z) (ap Accepted (raised_behind s p.mark (below top p - a)))
      go (no g) =
          let e : min a (below top p) ≡ below top p = min-eq_right (omega arith) in
          let z : below top p - below top p ≡ 0 = omega arith in
          ap (later_by s p.wire p.mark) (reach_above (omega arith)) ∙ rw (e, z) (ap Accepted (raised_ahead s p.mark (a - below top p) (omega arith)))

  -- so it is accepted
  pub near_accepted : sound s ≡ true → p.mark ≤ 3 → 1 ≤ arrivals s → arrivals s < 2 ^ 48
      → arrival s p.wire p.mark ≡ Accepted (raised_by (a - min a (below top p)) (below top p - min a (below top p)) s p.mark)
  near_accepted good m some room = arrival_later s p.wire p.mark good m some room ∙ near_later
