-- Where packets and XR blocks begin, without the turns. Assumes nothing.
use Prim.Native.Nat.{ℕ, zero, suc, ◌+◌, ◌-◌, ◌≤◌, ◌<◌}
use mathlib.Core.Path.{◌≡◌, refl, ap}
use mathlib.Core.Bool.{Bool, true, false, cond}
use mathlib.Core.List.{List, [], ◌∷◌}
use native.Mathlib.Omega.{arith}
use borrow.Author.Tests.{lt-ltb, le-ltb, ltb-true, ltb-false}
use lib.Dec.{ltb}
use Rattle.rtcp.specs.Header.{size}
use Rattle.rtcp.specs.Compound.{begins_in, begins, BeginsFollow}

module _ (b : List ℕ) (end : ℕ) where
  -- turns enough are as good as any
  enough : (k j from : ℕ) → end ≤ from + k → end ≤ from + j → begins_in k b from end ≡ begins_in j b from end
  unfolding begins_in
  enough zero zero from h g = refl
  enough zero (suc j) from h g = let l : end ≤ from = omega arith in rw (le-ltb from end l)
  enough (suc k) zero from h g = let l : end ≤ from = omega arith in rw (le-ltb from end l)
  enough (suc k) (suc j) from h g =
      ap (λ (l : List ℕ). cond (ltb from end) (from ∷ l) []) (enough k j (from + size b from) (omega arith) (omega arith))

  module _ (from : ℕ) where
    pub begins_next : from < end → begins b from end ≡ from ∷ begins b (from + size b from) end
    unfolding begins_in
    begins_next h = step (end - from) (omega arith)
      where
        step : (k : ℕ) → end ≤ from + k → begins_in k b from end ≡ from ∷ begins b (from + size b from) end
        step zero l = absurd (omega arith)
        step (suc k) l =
            rw (lt-ltb from end h)
            (ap (λ (l : List ℕ). from ∷ l) (enough k (end - (from + size b from)) (from + size b from) (omega arith) (omega arith)))

    pub begins_done : end ≤ from → begins b from end ≡ []
    unfolding begins_in
    begins_done h = let e : end - from ≡ 0 = omega arith in rw e

pub begins_follow : BeginsFollow
begins_follow b from end = choose (ltb from end) refl
  where
    choose : (t : Bool) → ltb from end ≡ t → begins b from end ≡ cond t (from ∷ begins b (from + size b from) end) []
    choose true q = begins_next b end from (ltb-true from end q)
    choose false q = begins_done b end from (ltb-false from end q)
