-- The byte that counts as read after a failed read, and where what is left ends. Assumes nothing.
use mathlib.Core.Path.{◌≡◌, refl}
use mathlib.Core.Logic.{◌⊎◌, inl, inr, ⊎_elim}
use mathlib.Core.Bool.{Bool, true, false, cond, ◌&&◌}
use Prim.Native.Nat.{ℕ, ◌-◌, ◌%◌, ◌≤◌, ◌<◌}
use native.Mathlib.Omega.{arith}
use borrow.Author.Tests.{eqb-true}
use lib.Dec.{eqb}
use Rattle.shell.specs.Fills.{is_failure, unread_of, end_of}
use Rattle.shell.specs.declared.reading.Input.{Input}

pub unread_none : (i : Input) → is_failure i.ahead ≡ false → unread_of i ≡ 0
unfolding unread_of
unread_none i e = rw e

-- it comes after whole blocks
unread_is : (i : Input) → (unread_of i ≡ 0) ⊎ ((unread_of i ≡ 1) × (i.bytes % 512 ≡ 0))
unfolding unread_of
unread_is i = go (is_failure i.ahead) (eqb (i.bytes % 512) 0) refl
  where
    go : (a b : Bool) → eqb (i.bytes % 512) 0 ≡ b → (◌≡◌ {A = ℕ} (cond (a && b) 1 0) 0) ⊎ ((◌≡◌ {A = ℕ} (cond (a && b) 1 0) 1) × (i.bytes % 512 ≡ 0))
    go true true e = inr (refl, eqb-true (i.bytes % 512) 0 e)
    go true false e = inl refl
    go false b e = inl refl

-- with it, less than a block is no whole one
pub end_short : (i : Input) (from top : ℕ) → from % 512 ≡ 0 → from ≤ i.bytes → i.bytes - from < 512 → top ≤ end_of i - from → top < 512
end_short i from top w h k e =
    ⊎_elim (λ (n : unread_of i ≡ 0). omega arith) (λ (n : (unread_of i ≡ 1) × (i.bytes % 512 ≡ 0)). omega (arith, n.0, n.1)) (unread_is i)

pub one_unread : (i : Input) → unread_of i ≤ 1
one_unread i = ⊎_elim (λ (n : unread_of i ≡ 0). omega arith) (λ (n : (unread_of i ≡ 1) × (i.bytes % 512 ≡ 0)). omega (arith, n.0)) (unread_is i)
