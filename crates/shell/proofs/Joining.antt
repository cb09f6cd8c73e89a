-- Two texts joined at the front of an output. Assumes nothing.
use mathlib.Core.Path.{◌≡◌, refl, sym, ap, ◌∙◌}
use mathlib.Core.Bool.{Bool, true, false}
use mathlib.Core.List.{List, ◌++◌}
use Prim.Native.Nat.{ℕ, ◌+◌, min}
use native.Mathlib.Nat.{zero-add}
use native.Mathlib.Omega.{arith}
use borrow.Author.Tests.{leb-true, leb-false}
use lib.Dec.{leb}
use lib.ListN.{length, length-append}
use lib.Seq.{sets, length-sets}
use Rattle.answers.specs.Texts.{codes}
use Rattle.answers.proofs.Stores.{sets-append, sets-out}
use Rattle.shell.specs.Told.{joined, Joined}

-- a run from a place past the end on is one from the end on: nothing is stored
sets-clipped : (l : List ℕ) (at : ℕ) (vs : List ℕ) → sets l (min at (length l)) vs ≡ sets l at vs
sets-clipped l at vs = go (leb at (length l)) refl
  where
    go : (t : Bool) → leb at (length l) ≡ t → sets l (min at (length l)) vs ≡ sets l at vs
    go true e = let same : min at (length l) ≡ at = omega (arith, leb-true at (length l) e) in ap (λ (k : ℕ). sets l k vs) same
    go false e =
        let past = leb-false at (length l) e in
        sets-out l (min at (length l)) vs (omega arith) ∙ sym (sets-out l at vs (omega arith))

-- three stores, each from where the one before it ended or was cut off
pub joins : (first second old : List ℕ) (colon from r : ℕ) {one two three : List ℕ}
    → colon ≡ min (0 + length first) (length old) → from ≡ min (colon + 2) (length old) → r ≡ min (from + length second) (length old)
    → one ≡ sets old 0 first → two ≡ sets one colon (codes ": ") → three ≡ sets two from second → Joined first second old r three
joins first second old colon from r {one} {two} {three} c f s e1 e2 e3 =
    let n1 : length one ≡ length old = ap length e1 ∙ length-sets old 0 first in
    let n2 : length two ≡ length old = ap length e2 ∙ length-sets one colon (codes ": ") ∙ n1 in
    let at1 : colon ≡ min (length first) (length one) = omega arith in
    let at2 : from ≡ min (length first + 2) (length two) = omega arith in
    let two_is : two ≡ sets one (length first) (codes ": ") = e2 ∙ ap (λ (k : ℕ). sets one k (codes ": ")) at1 ∙ sets-clipped one (length first) (codes ": ") in
    let stored : sets old 0 (joined first second) ≡ sets two (length first + 2) second =
    sets-append old 0 first (codes ": " ++ second)
    ∙ ap (λ (k : ℕ). sets (sets old 0 first) k (codes ": " ++ second)) (zero-add (length first))
    ∙ ap (λ (l : List ℕ). sets l (length first) (codes ": " ++ second)) (sym e1)
    ∙ sets-append one (length first) (codes ": ") second
    ∙ ap (λ (l : List ℕ). sets l (length first + 2) second) (sym two_is)
    in
    record {
      size = simp length-append (omega arith);
      front = e3 ∙ ap (λ (k : ℕ). sets two k second) at2 ∙ sets-clipped two (length first + 2) second ∙ sym stored;
    }
