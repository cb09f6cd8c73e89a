-- Laws of the search for an entry, over the entries' size. Assumes nothing.
use Rattle.std.specs.Prelude.{Some, None}
use Prim.Native.Nat.{ℕ, zero, suc, ◌+◌, ◌-◌, ◌*◌, ◌≤◌, ◌<◌}
use mathlib.Core.Path.{◌≡◌, refl, sym, ap}
use mathlib.Core.Bool.{Bool, true, false, cond}
use mathlib.Core.List.{List}
use native.Mathlib.Nat.{mul-suc, mul-le-mul_left}
use native.Mathlib.Omega.{arith}
use lib.Dec.{eqb}
use Rattle.numbers.specs.BigEndian.{word}
use Rattle.rtcp.specs.Entries.{entry_for}

-- of n entries, the one with k behind it: its place, and that it lies among them
pub place_at : (size n k : ℕ) → k < n → size * (n - k - 1) + size ≡ size * (n - k)
place_at size n k h = let e : n - k ≡ suc (n - k - 1) = omega arith in omega (arith, ap (λ (m : ℕ). size * m) e, mul-suc size (n - k - 1))

pub place_within : (size n k : ℕ) → k < n → size * (n - k - 1) + size ≤ size * n
place_within size n k h = let m : n - k ≤ n = omega arith in omega (arith, place_at size n k h, mul-le-mul_left size m)

module _ (size : ℕ) (b : List ℕ) where
  -- none of no entries; of one more, that one, or what is behind it
  pub entry_none : (n at media : ℕ) → n ≡ 0 → None ≡ entry_for size n b at media
  unfolding entry_for
  entry_none zero at media h = refl
  entry_none (suc n) at media h = absurd (omega arith)

  pub entry_more : (n at behind media : ℕ) → at + size ≡ behind
      → cond (eqb (word 4 b at) media) (Some at) (entry_for size n b behind media) ≡ entry_for size (suc n) b at media
  unfolding entry_for
  entry_more n at behind media e = ap (λ (k : ℕ). cond (eqb (word 4 b at) media) (Some at) (entry_for size n b k media)) (sym e)

  -- the entry that is found lies whole among those looked at
  pub entry_within : (n from media at : ℕ) → entry_for size n b from media ≡ Some at → at + size ≤ from + size * n
  unfolding entry_for
  entry_within zero from media at e = let z : ◌≡◌ {A = ℕ} 0 1 = cc in absurd (omega arith)
  entry_within (suc n) from media at e = choose (eqb (word 4 b from) media) e (entry_within n (from + size) media at)
    where
      choose : (t : Bool) → cond t (Some from) (entry_for size n b (from + size) media) ≡ Some at
          → (entry_for size n b (from + size) media ≡ Some at → at + size ≤ from + size + size * n) → at + size ≤ from + size * suc n
      choose true f more = let same : at ≡ from = cc in omega (arith, mul-suc size n)
      choose false f more = omega (arith, more f, mul-suc size n)
