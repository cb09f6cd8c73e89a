-- Laws of one place: held, empty or neither. Assumes nothing.
use mathlib.Core.Path.{◌≡◌, refl, sym, ◌∙◌}
use mathlib.Core.Bool.{Bool, true, false, ◌&&◌, ◌||◌}
use Prim.Native.Nat.{ℕ, ◌+◌, ◌<◌}
use native.Mathlib.Omega.{arith}
use borrow.Author.Tests.{lt-leb, leb-true, leb-false, lt-ltb, le-ltb, eq-eqb}
use lib.Dec.{leb, ltb, eqb}
use Rattle.source.specs.Record.{arrivals, fresh, has_counted, sound}
use Rattle.source.proofs.Facts.{fresh_none, facts, not_zero}
use Rattle.sources.specs.declared.Place.{Place}
use Rattle.sources.specs.Places.{held, empty}

-- where no other mark is counted, the last one tells
pub last_mark : (a b c d : ℕ) → a + b + c ≡ 0 → ltb 0 d ≡ leb 1 (a + b + c + d)
last_mark a b c d h = go (leb 1 (a + b + c + d)) refl
  where
    go : (t : Bool) → leb 1 (a + b + c + d) ≡ t → ltb 0 d ≡ t
    go true e = lt-ltb 0 d (omega (arith, leb-true 1 (a + b + c + d) e))
    go false e = le-ltb 0 d (omega (arith, leb-false 1 (a + b + c + d) e))

module _ (p : Place) where
  pub has_ssrc : 0 < p.ssrc → false ≡ empty p
  has_ssrc h = rw (not_zero p.ssrc h)

  pub fresh_unheld : fresh p.source ≡ true → held p ≡ false
  fresh_unheld e = lt-leb 1 (arrivals p.source) (omega (arith, fresh_none p.source e))

  held_not_fresh : held p ≡ true → fresh p.source ≡ false
  held_not_fresh e = go (fresh p.source) refl
    where
      go : (t : Bool) → fresh p.source ≡ t → t ≡ false
      go false g = refl
      go true g = sym e ∙ fresh_unheld g

  pub held_not_empty : held p ≡ true → false ≡ empty p
  held_not_empty e = rw (held_not_fresh e) (sym (and_no (eqb p.ssrc 0)))
    where
      and_no : (b : Bool) → (b && false) ≡ false
      and_no true = refl
      and_no false = refl

  -- a sound record that has counted nothing is fresh
  sound_fresh : held p ≡ false → sound p.source ≡ fresh p.source
  unfolding sound
  sound_fresh e = go (has_counted p.source) refl
    where
      go : (t : Bool) → has_counted p.source ≡ t → (fresh p.source || t) ≡ fresh p.source
      go false g = or_no (fresh p.source)
        where
          or_no : (b : Bool) → (b || false) ≡ b
          or_no true = refl
          or_no false = refl
      go true g = absurd (let f = facts p.source g in let l = leb-false 1 (arrivals p.source) e in omega (arith, f.some))

  pub sound_unheld : p.ssrc ≡ 0 → held p ≡ false → sound p.source ≡ empty p
  sound_unheld z e = sound_fresh e ∙ rw (eq-eqb p.ssrc 0 z)
