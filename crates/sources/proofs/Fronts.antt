-- Laws of the held places in front and of the others. Assumes nothing.
use mathlib.Core.Path.{◌≡◌, refl, sym, ap, ◌∙◌}
use mathlib.Core.Bool.{Bool, true, false, cond}
use mathlib.Core.List.{List, [], ◌∷◌, ◌++◌}
use Prim.Native.Nat.{ℕ, ◌≤◌}
use native.Mathlib.Omega.{arith}
use lib.ListN.{length, take, drop, length-append, length-take}
use lib.Seq.{take-append_seam, drop-append_seam, take-take}
use Rattle.sources.specs.declared.Place.{Place}
use Rattle.sources.specs.Places.{held, held_of, rest_of}

-- both together are all places
pub front_rest : (ps : List Place) → held_of ps ++ rest_of ps ≡ ps
unfolding held_of rest_of
front_rest [] = refl
front_rest (p ∷ ps) = go (held p) (front_rest ps)
  where
    go : (t : Bool) → held_of ps ++ rest_of ps ≡ ps → cond t (p ∷ held_of ps) [] ++ cond t (rest_of ps) (p ∷ ps) ≡ p ∷ ps
    go true e = ap (λ (qs : List Place). p ∷ qs) e
    go false e = refl

module _ (ps : List Place) where
  pub front_is : held_of ps ≡ take (length (held_of ps)) ps
  front_is = sym (take-append_seam (held_of ps) (rest_of ps)) ∙ ap (take (length (held_of ps))) (front_rest ps)

  pub rest_is : rest_of ps ≡ drop (length (held_of ps)) ps
  rest_is = sym (drop-append_seam (held_of ps) (rest_of ps)) ∙ ap (drop (length (held_of ps))) (front_rest ps)

  pub front_le : length (held_of ps) ≤ length ps
  front_le = omega (arith, simp length-append at (ap length (front_rest ps)))

-- of the first k places: n are held
module _ (xs : List Place) (k n : ℕ) (e : n ≡ length (held_of (take k xs))) where
  pub few_held : n ≤ k
  few_held = omega (arith, front_le (take k xs), length-take k xs)

  pub held_first : held_of (take k xs) ≡ take n xs
  held_first = front_is (take k xs) ∙ ap (λ (j : ℕ). take j (take k xs)) (sym e) ∙ take-take n k xs few_held

  pub rest_first : rest_of (take k xs) ≡ drop n (take k xs)
  rest_first = rest_is (take k xs) ∙ ap (λ (j : ℕ). drop j (take k xs)) (sym e)
