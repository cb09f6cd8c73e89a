use borrow.Author.Rules.{rules}
use mathlib.Core.Path.{◌≡◌, refl, sym, ap, ◌∙◌, subst⁻¹}
use Prim.Native.Nat.{ℕ, zero, suc, ◌-◌, ◌^◌, ◌≤◌, ◌<◌}
use native.Mathlib.Nat.{zero-add}
use native.Mathlib.Omega.{arith}
use lib.IntN.{ℤ, pos, negsuc, ◌-ℤ◌}
use mir.Syntax.{w64}
use mir.Val.{SFits, to_z}
use mir.ValLaws.{to_z_pos}
use Rattle.numbers.specs.Since.{signed}
use Rattle.numbers.proofs.Integers.{minus_neg}
use Rattle.numbers.proofs.Signed.{seen, seen_is}
use Rattle.numbers.proofs.Differences.{signed_low, signed_high}
use Rattle.lent.proofs.access.number.Goals as goal

minus_one : (n : ℕ) → negsuc 0 -ℤ pos n ≡ negsuc n
minus_one zero = refl
minus_one (suc n) = ap (λ (k : ℕ). negsuc (suc k)) (zero-add n)

turned : (n : ℕ) → n < 2 ^ 63 → negsuc 0 -ℤ to_z w64 n ≡ negsuc n
turned n h = ap (λ (z : ℤ). negsuc 0 -ℤ z) (to_z_pos w64 n h) ∙ minus_one n

-- the number below 0, by how far its word is from the last
below : (word : ℕ) → word < 2 ^ 64 → 2 ^ 63 ≤ word → negsuc (2 ^ 64 - 1 - word) ≡ signed 64 word
below word h l = ap negsuc (omega arith) ∙ sym (signed_high 63 word l ∙ minus_neg word (2 ^ 64) h)

fits : (word : ℕ) → 2 ^ 63 ≤ word → SFits w64 (negsuc (2 ^ 64 - 1 - word))
fits word l = record { sfits = omega arith }

pub returns-then-word-lt9223372036854775808 : goal.returns-then-word-lt9223372036854775808
returns-then-word-lt9223372036854775808 c =
    let word = c.args.word in
    to_z_pos w64 word c.if-word-lt9223372036854775808.true ∙ sym (signed_low 63 word c.if-word-lt9223372036854775808.true)

pub overflow_sub-result : goal.overflow_sub-result
overflow_sub-result c =
    let word = c.args.word in
    subst⁻¹ (λ (z : ℤ). SFits w64 z) (turned (2 ^ 64 - 1 - word) (omega arith)) (fits word c.if-word-lt9223372036854775808.false)

pub returns : goal.returns
returns c =
    let word = c.args.word in
    ap seen (turned (2 ^ 64 - 1 - word) (omega arith)) ∙ seen_is (negsuc (2 ^ 64 - 1 - word)) (fits word c.if-word-lt9223372036854775808.false) ∙ below word (search rules) c.if-word-lt9223372036854775808.false
