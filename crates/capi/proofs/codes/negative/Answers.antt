use mathlib.Core.Path.{◌≡◌, ap, ◌∙◌, subst⁻¹}
use Prim.Native.Nat.{ℕ, ◌^◌, ◌<◌}
use native.Mathlib.Omega.{arith}
use lib.IntN.{ℤ, pos, neg_ℤ, ◌-ℤ◌, +ℤ_idl}
use mir.Syntax.{w64}
use mir.Val.{SFits, to_z}
use mir.ValLaws.{to_z_pos}
use Rattle.numbers.proofs.Signed.{seen, seen_is}
use Rattle.capi.proofs.Answers.{negative_fits}
use Rattle.capi.proofs.codes.negative.Goals as goal

turned : (n : ℕ) → n < 2 ^ 63 → pos 0 -ℤ to_z w64 n ≡ neg_ℤ (pos n)
turned n h = ap (λ (z : ℤ). pos 0 -ℤ z) (to_z_pos w64 n h) ∙ +ℤ_idl (neg_ℤ (pos n))

pub overflow_cast-result : goal.overflow_cast-result
overflow_cast-result c = record { sfits = omega (arith, c.requires) }

pub overflow_sub-result : goal.overflow_sub-result
overflow_sub-result c = subst⁻¹ (λ (z : ℤ). SFits w64 z) (turned c.args.n c.requires) (negative_fits c.args.n c.requires)

pub returns : goal.returns
returns c = ap seen (turned c.args.n c.requires) ∙ seen_is (neg_ℤ (pos c.args.n)) (negative_fits c.args.n c.requires)
