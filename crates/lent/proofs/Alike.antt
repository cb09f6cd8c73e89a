-- The rules of a table see of a place its SSRC, whether it is held and whether it is empty. Assumes nothing.
use mathlib.Core.Path.{◌≡◌, refl, ap, ap₂}
use mathlib.Core.Bool.{Bool, true, false, cond, ◌&&◌}
use mathlib.Core.List.{List, [], ◌∷◌, map}
use Prim.Native.Nat.{ℕ, suc, ◌+◌}
use lib.ListN.{length}
use Rattle.answers.specs.Conditions.{all}
use Rattle.sources.specs.declared.Place.{Place}
use Rattle.sources.specs.Places.{held, empty, held_of, rest_of}
use Rattle.sources.specs.Rules.{rising, rules}

pub record Alike (p q : Place) : Type 0 where
  pub ssrcs : p.ssrc ≡ q.ssrc
  pub helds : held p ≡ held q
  pub empties : empty p ≡ empty q

-- one by one
unfoldable pub AllAlike : List Place → List Place → Type 0
AllAlike [] [] = Unit {0}
AllAlike [] (q ∷ qs) = ⊥
AllAlike (p ∷ ps) [] = ⊥
AllAlike (p ∷ ps) (q ∷ qs) = Alike p q × AllAlike ps qs

length-alike : (ps qs : List Place) → AllAlike ps qs → length ps ≡ length qs
unfolding AllAlike
length-alike [] [] a = refl
length-alike [] (q ∷ qs) a = absurd a
length-alike (p ∷ ps) [] a = absurd a
length-alike (p ∷ ps) (q ∷ qs) a = ap suc (length-alike ps qs a.1)

rising_alike : (least : ℕ) (ps qs : List Place) → AllAlike ps qs → rising least (held_of ps) ≡ rising least (held_of qs)
unfolding AllAlike held_of rising
rising_alike least [] [] a = refl
rising_alike least [] (q ∷ qs) a = absurd a
rising_alike least (p ∷ ps) [] a = absurd a
rising_alike least (p ∷ ps) (q ∷ qs) a = rw a.0.helds (go (held q) (rising_alike (q.ssrc + 1) ps qs a.1))
  where
    go : (b : Bool) → rising (q.ssrc + 1) (held_of ps) ≡ rising (q.ssrc + 1) (held_of qs) → rising least (cond b (p ∷ held_of ps) []) ≡ rising least (cond b (q ∷ held_of qs) [])
    go true e = rw (a.0.ssrcs, e)
    go false e = refl

empty_alike : (ps qs : List Place) → AllAlike ps qs → all (map empty ps) ≡ all (map empty qs)
unfolding AllAlike
empty_alike [] [] a = refl
empty_alike [] (q ∷ qs) a = absurd a
empty_alike (p ∷ ps) [] a = absurd a
empty_alike (p ∷ ps) (q ∷ qs) a = ap₂ (λ (x y : Bool). x && y) a.0.empties (empty_alike ps qs a.1)

rest_alike : (ps qs : List Place) → AllAlike ps qs → all (map empty (rest_of ps)) ≡ all (map empty (rest_of qs))
unfolding AllAlike rest_of
rest_alike [] [] a = refl
rest_alike [] (q ∷ qs) a = absurd a
rest_alike (p ∷ ps) [] a = absurd a
rest_alike (p ∷ ps) (q ∷ qs) a = rw a.0.helds (go (held q) (rest_alike ps qs a.1))
  where
    go : (b : Bool) → all (map empty (rest_of ps)) ≡ all (map empty (rest_of qs)) → all (map empty (cond b (rest_of ps) (p ∷ ps))) ≡ all (map empty (cond b (rest_of qs) (q ∷ qs)))
    go true e = e
    go false e = empty_alike (p ∷ ps) (q ∷ qs) a

pub rules_alike : (ps qs : List Place) → AllAlike ps qs → all (rules ps) ≡ all (rules qs)
rules_alike ps qs a = rw (length-alike ps qs a, rising_alike 0 ps qs a, rest_alike ps qs a)
