-- Laws of a signed number in decimal, as code that has it reads it. Assumes nothing.
use mathlib.Core.Path.{◌≡◌, refl, sym, ap, ◌∙◌}
use mathlib.Core.Bool.{Bool, true, false}
use mathlib.Core.List.{◌∷◌}
use Prim.Native.Nat.{ℕ}
use native.Mathlib.Omega.{arith}
use borrow.Author.Tests.{ltb-true}
use lib.IntN.{ℤ, pos, negsuc, nat_abs}
use lib.Signed.{lt_z}
use mir.Syntax.{w64}
use mir.Val.{SFits}
use Rattle.numbers.proofs.Signed.{seen, seen_is}
use Rattle.table.specs.Decimal.{decimal, signed}
use Rattle.table.specs.Parts.{minus}

signed_below : (z : ℤ) → SFits w64 z → lt_z (seen z) (pos 0) ≡ true → signed z ≡ 45 ∷ decimal (nat_abs z)
unfolding signed
signed_below (pos n) f h =
    absurd (omega (arith, ltb-true n 0 (ap (λ (z : ℤ). lt_z z (pos 0)) (sym (seen_is (pos n) f)) ∙ h)))
signed_below (negsuc k) f h = refl

signed_other : (z : ℤ) → SFits w64 z → lt_z (seen z) (pos 0) ≡ false → signed z ≡ decimal (nat_abs z)
unfolding signed
signed_other (pos n) f h = refl
signed_other (negsuc k) f h =
    let z : ◌≡◌ {A = ℕ} 0 1 = cc (ap (λ (z : ℤ). lt_z z (pos 0)) (sym (seen_is (negsuc k) f)) ∙ h) in absurd (omega arith)

-- a number is its sign and its size
pub signed_parts : (z : ℤ) → SFits w64 z → signed z ≡ minus (lt_z (seen z) (pos 0)) (nat_abs z)
unfolding minus
signed_parts z f = go (lt_z (seen z) (pos 0)) refl
  where
    go : (b : Bool) → lt_z (seen z) (pos 0) ≡ b → signed z ≡ minus b (nat_abs z)
    go true h = signed_below z f h
    go false h = signed_other z f h

-- a callee's answer on z as it reads it
pub size_of : (z : ℤ) → SFits w64 z → {r : ℕ} → r ≡ nat_abs (seen z) → r ≡ nat_abs z
size_of z f e = e ∙ ap nat_abs (seen_is z f)
