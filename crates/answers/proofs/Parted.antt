-- A text in parts: where they end, and which part stands where. Assumes nothing.
use mathlib.Core.Path.{◌≡◌, refl}
use mathlib.Core.Bool.{true}
use mathlib.Core.List.{List, [], ◌∷◌}
use Prim.Native.Nat.{ℕ, zero, suc, ◌≤◌, ◌<◌}
use native.Mathlib.Nat.{le_of_suc-le-suc, zero-sub}
use native.Mathlib.Omega.{arith}
use borrow.Author.Tests.{leb-true}
use lib.Dec.{leb}
use lib.ListN.{length, get_or}
use Rattle.answers.specs.Parts.{part_of, parts_fit, parts_of}
use Rattle.answers.proofs.Conditions.{and_left, and_right}

pub parts_fit_lem : (ends : List ℕ) (size n : ℕ) → suc n < length ends → parts_fit ends size ≡ true
    → (get_or ends n 0 ≤ get_or ends (suc n) 0) × (get_or ends (suc n) 0 ≤ size)
unfolding parts_fit
parts_fit_lem [] size n h t = absurd (omega arith)
parts_fit_lem (a ∷ []) size n h t = absurd (omega arith)
parts_fit_lem (a ∷ b ∷ ends) size zero h t =
    let rest = and_right (leb a b) _ t in
    (leb-true a b (and_left (leb a b) _ t), leb-true b size (and_left (leb b size) _ rest))
parts_fit_lem (a ∷ b ∷ ends) size (suc n) h t =
    parts_fit_lem (b ∷ ends) size n (le_of_suc-le-suc h) (and_right (leb b size) _ (and_right (leb a b) _ t))

-- past the last there are no bytes
pub part_at : (ends text : List ℕ) (n : ℕ) → get_or (parts_of ends text) n [] ≡ part_of ends text n
unfolding parts_of part_of
part_at [] text n = refl
part_at (a ∷ []) text zero = rw zero-sub
part_at (a ∷ []) text (suc n) = refl
part_at (a ∷ b ∷ ends) text zero = refl
part_at (a ∷ b ∷ ends) text (suc n) = part_at (b ∷ ends) text n
