-- Where an arrival stands, case by case. Assumes nothing.
use mathlib.Core.Path.{◌≡◌, refl, ◌∙◌}
use Prim.Native.Nat.{ℕ, zero, suc, ◌-◌, ◌%◌, ◌≤◌, ◌<◌}
use native.Mathlib.Decide.{dec_le}
use native.Mathlib.Omega.{arith}
use borrow.Author.Tests.{le-leb, lt-leb, ne_eqb}
use Rattle.source.specs.declared.distances.Reach.{Reach}
use Rattle.source.specs.declared.distances.Reach.TheVariants.{Ahead, Behind, Jump}
use Rattle.source.specs.Distances.{most_ahead, least_behind, reach_of}

pub reach_level : reach_of 0 ≡ Behind 0
unfolding reach_of
reach_level = refl

module _ (d : ℕ) where
  pub reach_ahead : 1 ≤ d → d ≤ most_ahead → reach_of d ≡ Ahead d
  unfolding reach_of
  reach_ahead p q = rw (le-leb 1 d p, le-leb d most_ahead q)

  pub reach_behind : least_behind ≤ d → d < 65536 → reach_of d ≡ Behind (65536 - d)
  unfolding reach_of
  reach_behind p q =
      let k : (65536 - d) % 65536 ≡ 65536 - d = omega arith in
      rw (le-leb 1 d (omega arith), lt-leb d most_ahead (omega arith), ne_eqb d 0 (λ z. omega arith), le-leb least_behind d p, k)

  pub reach_jump : most_ahead < d → d < least_behind → reach_of d ≡ Jump
  unfolding reach_of
  reach_jump p q = rw (le-leb 1 d (omega arith), lt-leb d most_ahead p, ne_eqb d 0 (λ z. omega arith), lt-leb least_behind d q)

-- how far it can be
abbrev pub Within : Reach → Type 0
Within (Ahead d) = (1 ≤ d) × (d ≤ most_ahead)
Within (Behind k) = k < 100
Within Jump = Unit {0}

pub within : {r : Reach} (d : ℕ) → d < 65536 → r ≡ reach_of d → Within r
within zero h e = rw (e ∙ reach_level) (omega arith)
within {r} (suc d) h e = go (dec_le (suc d) most_ahead) (dec_le least_behind (suc d))
  where
    go : Dec (suc d ≤ most_ahead) → Dec (least_behind ≤ suc d) → Within r
    go (yes p) q = rw (e ∙ reach_ahead (suc d) (omega arith) p) (omega arith, p)
    go (no p) (yes q) = rw (e ∙ reach_behind (suc d) q h) (omega arith)
    go (no p) (no q) = rw (e ∙ reach_jump (suc d) (omega arith) (omega arith)) tt
