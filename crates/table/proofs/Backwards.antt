-- Runs of stores, the later part first. Assumes nothing.
use mathlib.Core.Path.{◌≡◌, refl, ap, ◌∙◌}
use mathlib.Core.List.{List, [], ◌∷◌, ◌++◌}
use Prim.Native.Nat.{ℕ, suc, ◌+◌, ◌-◌, ◌≤◌, ◌<◌}
use native.Mathlib.Nat.{add-zero}
use native.Mathlib.Numerals.{add-one}
use native.Mathlib.Omega.{arith}
use lib.ListN.{length, set}
use lib.Seq.{sets, set_comm}

-- a store before a run
set-under : (l : List ℕ) (i j a : ℕ) (ws : List ℕ) → i < j → set (sets l j ws) i a ≡ sets (set l i a) j ws
set-under l i j a [] h = refl
set-under l i j a (w ∷ ws) h =
    set-under (set l j w) i (suc j) a ws (omega arith)
    ∙ ap (λ (k : List ℕ). sets k (suc j) ws) (set_comm l j i w a (λ e. omega arith))

pub sets-before : (l : List ℕ) (a : ℕ) (vs ws : List ℕ) {b : ℕ} → b ≡ a + length vs → sets (sets l b ws) a vs ≡ sets l a (vs ++ ws)
sets-before l a [] ws {b} e = ap (λ (i : ℕ). sets l i ws) (e ∙ add-zero a)
sets-before l a (v ∷ vs) ws {b} e =
    ap (λ (k : List ℕ). sets k (suc a) vs) (set-under l a b v ws (omega arith))
    ∙ sets-before (set l a v) (suc a) vs ws (omega arith)

-- a run is stored, and then one that ends where it begins
pub sets-back : (old : List ℕ) (a : ℕ) (vs ws : List ℕ) {mid out : List ℕ} {b : ℕ}
    → b ≡ a + length vs → mid ≡ sets old b ws → out ≡ sets mid a vs → out ≡ sets old a (vs ++ ws)
sets-back old a vs ws e em eo = eo ∙ ap (λ (k : List ℕ). sets k a vs) em ∙ sets-before old a vs ws e

-- one byte, or two, before a run
module _ (old : List ℕ) (at v : ℕ) (ws : List ℕ) {mid : List ℕ} {b : ℕ} where
  pub store_one : b ≡ at + 1 → mid ≡ sets old b ws → set mid at v ≡ sets old at (v ∷ ws)
  store_one e em = sets-back old at (v ∷ []) ws e em refl

  pub store_two : (w : ℕ) → b ≡ at + 2 → mid ≡ sets old b ws → set (set mid at v) (at + 1) w ≡ sets old at (v ∷ w ∷ ws)
  store_two w e em = ap (λ (i : ℕ). set (set mid at v) i w) (add-one at) ∙ sets-back old at (v ∷ w ∷ []) ws e em refl

-- the last two bytes before an end
pub store_end : (old : List ℕ) (end v w : ℕ) → 2 ≤ end → set (set old (end - 2) v) (end - 1) w ≡ sets old (end - 2) (v ∷ w ∷ [])
store_end old end v w h = let e : end - 1 ≡ suc (end - 2) = omega arith in ap (λ (i : ℕ). set (set old (end - 2) v) i w) e
