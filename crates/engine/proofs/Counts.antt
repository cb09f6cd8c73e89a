-- How many records a block holds, and what it takes to be one. Assumes nothing.
use Rattle.std.specs.Prelude.{Some, None}
use mathlib.Core.Path.{◌≡◌, refl, sym, ap, ◌∙◌}
use mathlib.Core.Bool.{Bool, true, false, cond, ◌&&◌, false≢true}
use Prim.Native.Nat.{ℕ, ◌+◌, ◌*◌, ◌/◌, ◌%◌, ◌^◌, ◌≤◌, ◌<◌}
use native.Mathlib.Decide.{dec_le}
use native.Mathlib.Nat.{add-zero, div-le_self, div-add-mod'}
use native.Mathlib.Omega.{arith}
use mathlib.Core.List.{List, [], ◌∷◌}
use borrow.Author.Tests.{le-leb, lt-leb, eq-eqb, leb-true, eqb-true}
use lib.Dec.{eqb, leb}
use lib.ListN.{length, get_or}
use Rattle.answers.specs.Conditions.{all}
use Rattle.answers.proofs.Conditions.{all_true, all_false, and_left, and_right}
use Rattle.source.specs.Blocks.{Packet, packets, marks_fit, in_limits}
use Rattle.engine.specs.Limits.{shape, records_in, Held}
use Rattle.engine.specs.Windows.{strays}
use Rattle.source.specs.declared.Source.{Source}
use Rattle.source.specs.Record.{arrivals, sound}
use Rattle.engine.specs.Settled.{numbered, Roomy}
use Rattle.engine.specs.Scans.{scan_of}
use Rattle.engine.specs.Blocks.{Block}

module _ (width size : ℕ) where
  -- one condition that fails decides
  pub none_in : (i : ℕ) → get_or (shape width size) i true ≡ false → 0 ≡ records_in width size
  none_in i e = ap (λ (b : Bool). cond b (size / width) 0) (all_false (shape width size) i e)

  pub some_in : 4 ≤ width → size % width ≡ 0 → size / width ≤ 62 → size / width ≡ records_in width size
  some_in w z f = go (dec_le 1 (size / width))
    where
      go : Dec (1 ≤ size / width) → size / width ≡ records_in width size
      go (yes l) = rw (le-leb 4 width w, eq-eqb (size % width) 0 z, le-leb 1 (size / width) l, le-leb (size / width) 62 f)
      go (no l) = rw (le-leb 4 width w, eq-eqb (size % width) 0 z, lt-leb 1 (size / width) (omega arith)) (omega arith)

-- a part has bytes
pub part_some : (width : ℕ) (s : List ℕ) (n : ℕ) → Held width s n → 0 < length s
part_some width s n h = let d = div-le_self (length s) width in omega (arith, h.count, h.some)

-- a scan that shows a mark above 3
pub misfit_of : (first : ℕ) (ps : List Packet) → None ≡ scan_of first ps → marks_fit ps ≡ false
misfit_of first ps e = go (marks_fit ps) refl
  where
    go : (t : Bool) → marks_fit ps ≡ t → t ≡ false
    go true f =
        let no : None ≡ Some (record { notect = numbered 0 ps; ect1 = numbered 1 ps; ect0 = numbered 2 ps; ce = numbered 3 ps; strays = strays first ps }) = e ∙ rw f refl in
        let z : ◌≡◌ {A = ℕ} 0 1 = cc in absurd (omega arith)
    go false f = refl

-- ---- a block, or none

both_false : (a b c d m : Bool) → all (a ∷ b ∷ c ∷ d ∷ []) ≡ false → all (a ∷ b ∷ c ∷ d ∷ m ∷ []) ≡ false
both_false false b c d m e = refl
both_false true false c d m e = refl
both_false true true false d m e = refl
both_false true true true false m e = refl
both_false true true true true m e = let z : ◌≡◌ {A = Bool} true false = e in absurd (false≢true (sym z))

module _ (width : ℕ) (s : List ℕ) where
  pub no_block : records_in width (length s) ≡ 0 → all (in_limits width s) ≡ false
  no_block e = go (all (shape width (length s))) refl
    where
      go : (b : Bool) → all (shape width (length s)) ≡ b → all (in_limits width s) ≡ false
      go true f =
          let some = leb-true 1 (length s / width) (all_true (shape width (length s)) 2 f) in
          let none : length s / width ≡ 0 = sym (ap (λ (t : Bool). cond t (length s / width) 0) f) ∙ e in
          absurd (omega arith)
      go false f = both_false (leb 4 width) (eqb (length s % width) 0) (leb 1 (length s / width)) (leb (length s / width) 62) (marks_fit (packets width (length s / width) s)) f

  pub a_block : {n : ℕ} → n ≡ records_in width (length s) → (n ≡ 0 → ⊥) → Block width s n
  a_block {n} e h = go (all (shape width (length s))) refl
    where
      go : (b : Bool) → all (shape width (length s)) ≡ b → Block width s n
      go true f =
          let count : n ≡ length s / width = e ∙ ap (λ (t : Bool). cond t (length s / width) 0) f in
          let whole = eqb-true (length s % width) 0 (all_true (shape width (length s)) 1 f) in
          record {
            wide = leb-true 4 width (all_true (shape width (length s)) 0 f);
            whole = sym (ap (λ (k : ℕ). k * width) count ∙ sym (add-zero (length s / width * width)) ∙ ap (λ (r : ℕ). length s / width * width + r) (sym whole) ∙ div-add-mod' (length s) width);
            some = omega (arith, count, leb-true 1 (length s / width) (all_true (shape width (length s)) 2 f));
            few = omega (arith, count, leb-true (length s / width) 62 (all_true (shape width (length s)) 3 f));
          }
      go false f = absurd (h (e ∙ ap (λ (t : Bool). cond t (length s / width) 0) f))

-- room, as a test has it
pub roomy_of : (s : Source) (n : ℕ) → sound s ≡ true → (leb 1 (arrivals s) && leb (arrivals s + n) (2 ^ 48)) ≡ true → Roomy s n
roomy_of s n g e = record {
  good = g;
  some = leb-true 1 (arrivals s) (and_left (leb 1 (arrivals s)) (leb (arrivals s + n) (2 ^ 48)) e);
  room = leb-true (arrivals s + n) (2 ^ 48) (and_right (leb 1 (arrivals s)) (leb (arrivals s + n) (2 ^ 48)) e);
}
