-- Laws of places that rise, and of what is found in them. Assumes nothing.
use Rattle.std.specs.Prelude.{None}
use mathlib.Core.Path.{◌≡◌, refl}
use mathlib.Core.Bool.{true}
use mathlib.Core.List.{List, [], ◌∷◌}
use Prim.Native.Nat.{ℕ, ◌+◌, ◌≤◌, ◌<◌}
use native.Mathlib.Omega.{arith}
use borrow.Author.Tests.{leb-true, ne_eqb}
use lib.Dec.{leb}
use Rattle.answers.proofs.Conditions.{and_left, and_right}
use Rattle.sources.specs.declared.Place.{Place}
use Rattle.sources.specs.Rules.{rising}
use Rattle.sources.specs.Stands.{found}

-- ---- rising places

module _ (least : ℕ) (p : Place) (ps : List Place) (r : rising least (p ∷ ps) ≡ true) where
  pub rising_first : least ≤ p.ssrc
  unfolding rising
  rising_first = leb-true least p.ssrc (and_left (leb least p.ssrc) (rising (p.ssrc + 1) ps) r)

  pub rising_rest : rising (p.ssrc + 1) ps ≡ true
  unfolding rising
  rising_rest = and_right (leb least p.ssrc) (rising (p.ssrc + 1) ps) r

-- an SSRC below the least is not found
pub below_none : (ssrc least : ℕ) (ps : List Place) → ssrc < least → rising least ps ≡ true → found ssrc ps ≡ None
unfolding found
below_none ssrc least [] h r = refl
below_none ssrc least (p ∷ ps) h r =
    let l = rising_first least p ps r in
    rw (ne_eqb p.ssrc ssrc (λ e. omega arith)) (below_none ssrc (p.ssrc + 1) ps (omega arith) (rising_rest least p ps r))
