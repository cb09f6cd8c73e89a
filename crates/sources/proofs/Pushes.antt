-- Laws of places that move on by one. Assumes nothing.
use mathlib.Core.Path.{◌≡◌, refl, sym, ap, ◌∙◌}
use mathlib.Core.List.{List, [], ◌∷◌, ◌++◌}
use Prim.Native.Nat.{ℕ, zero, suc, ◌+◌, ◌-◌, ◌≤◌, ◌<◌}
use native.Mathlib.Numerals.{add-one}
use native.Mathlib.Omega.{arith}
use lib.ListN.{length, get_or, set, take, drop, length-set, length-take, get_or-append}
use lib.Seq.{take_all, take-take, take-append-le, take-suc-set, drop-set-lt, drop-cons, set-append_left}
use Rattle.sources.specs.declared.Place.{Place}
use Rattle.sources.specs.Places.{empty_place}
use Rattle.sources.specs.Seats.{pushed}

module _ (i n : ℕ) (p : Place) (ps : List Place) where
  pub pushed_turn : i < n → pushed i (n - i) p ps ≡ pushed (i + 1) (n - (i + 1)) (get_or ps i empty_place) (set ps i p)
  unfolding pushed
  pushed_turn h = let e : n - i ≡ suc (n - suc i) = omega arith in rw (add-one i, e)

  pub pushed_done : n ≤ i → pushed i (n - i) p ps ≡ ps
  unfolding pushed
  pushed_done h = let e : n - i ≡ 0 = omega arith in rw e

-- places behind those that move stay
pub pushed_append : (i k : ℕ) (p : Place) (ps zs : List Place) → i + k ≤ length ps → pushed i k p (ps ++ zs) ≡ pushed i k p ps ++ zs
unfolding pushed
pushed_append i zero p ps zs h = refl
pushed_append i (suc k) p ps zs h =
    let l : i < length ps = omega arith in
    rw (get_or-append ps zs empty_place i l, set-append_left ps zs i p l)
    (pushed_append (suc i) k (get_or ps i empty_place) (set ps i p) zs (rw (length-set ps i p) (omega arith)))

-- the place is put in, and the last one goes
pub pushed_all : (i k : ℕ) (p : Place) (ps : List Place) → i + k ≡ length ps → pushed i k p ps ≡ take (length ps) (take i ps ++ p ∷ drop i ps)
unfolding pushed
pushed_all i zero p ps h =
    let e : i ≡ length ps = omega arith in
    sym (take-append-le (length ps) (take i ps) (p ∷ drop i ps) (simp length-take (omega arith)) ∙ take-take (length ps) i ps (omega arith) ∙ take_all (length ps) ps (omega arith))
pushed_all i (suc k) p ps h =
    let l : i < length ps = omega arith in
    pushed_all (suc i) k (get_or ps i empty_place) (set ps i p) (rw (length-set ps i p) (omega arith))
    ∙ rw (length-set ps i p, take-suc-set ps i p l, drop-set-lt (suc i) ps i p (omega arith), ← drop-cons ps i empty_place l)
    (ap (take (length ps)) (snoc (take i ps)))
  where
    snoc : (qs : List Place) → (qs ++ (p ∷ [])) ++ drop i ps ≡ qs ++ p ∷ drop i ps
    snoc [] = refl
    snoc (q ∷ qs) = ap (λ (rs : List Place). q ∷ rs) (snoc qs)
