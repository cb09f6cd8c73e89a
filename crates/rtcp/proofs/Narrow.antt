-- A number of fewer bits read as signed in an i32, `n as i32 - m`. Assumes nothing.
use Prim.Native.Nat.{ℕ, suc, ◌-◌, ◌≤◌, ◌<◌}
use mathlib.Core.Path.{◌≡◌, ap, ◌∙◌}
use native.Mathlib.Omega.{arith}
use lib.IntN.{ℤ, pos, negsuc, ◌-ℤ◌}
use mir.Syntax.{w32}
use mir.Val.{SFits, to_z, of_z}
use mir.ValLaws.{to_z_pos, to_z-of_z}
use Rattle.numbers.proofs.Integers.{minus_neg}

module _ (m n : ℕ) (lt : n < m) (most : m ≤ 2147483648) where
  below : to_z w32 n -ℤ pos m ≡ negsuc (m - suc n)
  below = ap (λ (z : ℤ). z -ℤ pos m) (to_z_pos w32 n (omega arith)) ∙ minus_neg n m lt

  below_fits : SFits w32 (negsuc (m - suc n))
  below_fits = record { sfits = omega arith }

  -- it does not overflow
  pub narrow_fits : SFits w32 (to_z w32 n -ℤ pos m)
  narrow_fits = rw below below_fits

  -- and is n less m
  pub narrow_is : to_z w32 (of_z w32 (to_z w32 n -ℤ pos m)) ≡ pos n -ℤ pos m
  narrow_is = rw (below, minus_neg n m lt) (to_z-of_z w32 (negsuc (m - suc n)) below_fits)
