-- How long a row can be. Assumes nothing.
use mathlib.Core.Path.{◌≡◌, refl, subst⁻¹}
use mathlib.Core.Bool.{Bool, true, false}
use mathlib.Core.List.{List, [], ◌∷◌}
use Prim.Native.Nat.{ℕ, suc, ◌+◌, ◌-◌, ◌*◌, ◌^◌, ◌≤◌, ◌<◌}
use native.Mathlib.Decide.{dec_le}
use native.Mathlib.Omega.{arith}
use borrow.Author.Tests.{eqb-true}
use lib.IntN.{ℤ, pos, ◌-ℤ◌}
use lib.ListN.{length, length-append}
use Rattle.answers.proofs.Conditions.{all_true, true_is}
use Rattle.numbers.proofs.Integers.{eq_z_eq, minus_pos, minus_neg}
use Rattle.source.specs.declared.Source.{Source}
use Rattle.source.specs.Record.{arrivals, distinct, zeros, fresh, sound, lost}
use Rattle.source.proofs.Facts.{facts, sound_has_counted, sound_most}
use Rattle.trace.proofs.Decisions.{label_short}
use Rattle.table.specs.Decimal.{decimal, signed}
use Rattle.table.specs.Field.{as_field, line}
use Rattle.table.specs.Lines.{numbers, row_bytes}
use Rattle.table.specs.Theorems.{RowFits}
use Rattle.table.proofs.Digits.{length-u64}
use Rattle.table.proofs.Faults.{fault_free}
use Rattle.table.proofs.Texts.{field_most}

-- ---- numbers

difference_most : (a b : ℕ) → a < 2 ^ 64 → b < 2 ^ 64 → length (signed (pos a -ℤ pos b)) ≤ 21
unfolding signed
difference_most a b ha hb = go (dec_le b a)
  where
    go : Dec (b ≤ a) → length (signed (pos a -ℤ pos b)) ≤ 21
    go (yes h) = subst⁻¹ (λ (z : ℤ). length (signed z) ≤ 21) (minus_pos a b h) (omega (arith, length-u64 (a - b) (omega arith)))
    go (no h) = subst⁻¹ (λ (z : ℤ). length (signed z) ≤ 21) (minus_neg a b (omega arith)) (omega (arith, length-u64 (suc (b - suc a)) (omega arith)))

lost_is_lem : (s : Source) {h b : ℕ} → fresh s ≡ false → s.highest.0 ≡ pos h → s.base.0 ≡ pos b → b ≤ h → lost s ≡ pos (h - b + 1) -ℤ pos (distinct s)
unfolding lost
lost_is_lem s {h} {b} f eh eb le = rw (f, eh, eb, minus_pos h b le)

module _ (s : Source) (good : sound s ≡ true) where
  record Sizes : Type 0 where
    high : length (signed s.highest.0) ≤ 21
    lost : length (signed (lost s)) ≤ 21
    duplicates : s.duplicates ≤ 2 ^ 48

  sizes : Sizes
  unfolding fresh lost signed
  sizes = go (fresh s) refl
    where
      go : (b : Bool) → fresh s ≡ b → Sizes
      go true f = record {
        high = subst⁻¹ (λ (z : ℤ). length (signed z) ≤ 21) (eq_z_eq s.highest.0 (pos 0) (true_is _ (all_true (zeros s) 1 f))) (omega (arith, length-u64 0 (omega arith)));
        lost = rw f (omega (arith, length-u64 0 (omega arith)));
        duplicates = omega (arith, eqb-true s.duplicates 0 (all_true (zeros s) 6 f));
      }
      go false f =
          let k = facts s (sound_has_counted s good f) in
          let d : distinct s ≤ arrivals s = omega arith in
          record {
            high = subst⁻¹ (λ (z : ℤ). length (signed z) ≤ 21) k.highest (omega (arith, length-u64 k.high (omega (arith, k.spread, k.most, k.wire))));
            lost = subst⁻¹ (λ (z : ℤ). length (signed z) ≤ 21) (lost_is_lem s f k.highest k.base k.ordered)
                (difference_most (k.high - k.low + 1) (distinct s) (omega (arith, k.spread, k.most)) (omega (arith, k.most)));
            duplicates = omega (arith, k.fewer, k.most);
          }

-- ---- lines

abbrev Short : List (List ℕ) → Type 0
Short [] = Unit {0}
Short (t ∷ ts) = (length t ≤ 21) × Short ts

line_most : (field : List ℕ) (ts : List (List ℕ)) → Short ts → length (line field ts) ≤ length field + 22 * length ts + 2
unfolding line
line_most field [] s = omega (arith, length-append field (13 ∷ 10 ∷ []))
line_most field (t ∷ ts) s = omega (arith, length-append field (44 ∷ line t ts), line_most t ts s.1, s.0)

decimal_most : (n : ℕ) → n < 2 ^ 64 → length (decimal n) ≤ 21
decimal_most n h = omega (arith, length-u64 n h)

pub row_fits : RowFits
unfolding row_bytes
row_fits label ssrc t h e =
    let free = fault_free label t e in
    let s = t.source in
    let most = sound_most s free.good in
    let n = sizes s free.good in
    let short : Short (numbers ssrc t) = (
      decimal_most ssrc (omega arith),
      (
        n.high,
        (
          decimal_most s.ect0 (omega arith),
          (
            decimal_most s.ect1 (omega arith),
            (
              decimal_most s.ce (omega arith),
              (decimal_most s.notect (omega arith), (n.lost, (decimal_most s.duplicates (omega (arith, n.duplicates)), (decimal_most t.jumped (omega (arith, free.jumped)), (decimal_most t.restarts (omega (arith, free.restarts)), tt))))),
            ),
          ),
        ),
      ),
    ) in
    omega (arith, line_most (as_field label) (numbers ssrc t) short, field_most label (label_short label free.ok))
