use borrow.Author.Rules.{rules}
use mathlib.Core.Path.{◌≡◌, sym, ap, subst⁻¹, ◌∙◌}
use mathlib.Core.List.{[], ◌∷◌}
use Prim.Native.Nat.{◌^◌}
use native.Mathlib.Omega.{arith}
use lib.IntN.{ℤ}
use mir.Syntax.{w32, w64}
use mir.Val.{SFits, to_z, of_z}
use mir.ValLaws.{to_z-of_z}
use Rattle.numbers.specs.Integers.{modulo}
use Rattle.lent.specs.CompoundWords.{report_words}
use Rattle.lent.proofs.compound_words.report_in.Goals as goal

-- an i32 is an i64
widened : (z : ℤ) → SFits w32 z → SFits w64 (to_z w32 (of_z w32 z))
widened z f = subst⁻¹ (λ (y : ℤ). SFits w64 y) (to_z-of_z w32 z f) (record { sfits = omega (arith, f.sfits) })

widened_is : (z : ℤ) → SFits w32 z → to_z w64 (of_z w64 (to_z w32 (of_z w32 z))) ≡ z
widened_is z f = to_z-of_z w64 (to_z w32 (of_z w32 z)) (widened z f) ∙ to_z-of_z w32 z f

pub overflow_cast-x : goal.overflow_cast-x
overflow_cast-x c = widened c.in-Some.x.lost (search rules)

pub returns-in-Some : goal.returns-in-Some
unfolding report_words
returns-in-Some c =
    let x = c.in-Some.x in
    let lost = c.complement.ensures ∙ ap (modulo (2 ^ 64)) (widened_is x.lost (search rules)) in
    (λ i. 1 ∷ x.fraction ∷ lost i ∷ x.highest ∷ x.jitter ∷ x.lsr ∷ x.dlsr ∷ []) ∙ sym (ap report_words c.in-Some.is)

pub returns-in-None : goal.returns-in-None
unfolding report_words
returns-in-None c = sym (ap report_words c.in-None.is)
