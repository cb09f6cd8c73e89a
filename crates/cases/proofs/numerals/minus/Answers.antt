use mathlib.Core.Path.{ap, ◌∙◌, subst⁻¹}
use Prim.Native.Nat.{ℕ, suc, zero, ◌%◌, ◌^◌, ◌<◌}
use native.Mathlib.Omega.{arith}
use lib.IntN.{ℤ, pos, neg_ℤ, ◌-ℤ◌, +ℤ_idl}
use mir.Syntax.{w64}
use mir.Val.{SFits}
use mir.ValLaws.{to_z_pos}
use Rattle.cases.proofs.numerals.minus.Goals as goal

negative_fits : (n : ℕ) → n < 2 ^ 63 → SFits w64 (neg_ℤ (pos n))
negative_fits zero h = record { sfits = omega arith }
negative_fits (suc n) h = record { sfits = omega arith }

pub overflow_sub-result : goal.overflow_sub-result
overflow_sub-result c =
    let n = c.args.n % 9223372036854775808 in
    let h : n < 2 ^ 63 = omega arith in
    subst⁻¹ (λ (z : ℤ). SFits w64 z) (ap (λ (z : ℤ). pos 0 -ℤ z) (to_z_pos w64 n h) ∙ +ℤ_idl (neg_ℤ (pos n))) (negative_fits n h)
