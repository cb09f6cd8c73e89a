-- What is kept of a receiver and its 4 words: taking out and putting back are inverse. Assumes nothing.
use Rattle.std.specs.Prelude.{Option, Some, None}
use Rattle.between.specs.declared.calls.Kept.{Kept}
use mathlib.Core.Path.{◌≡◌, refl, sym, ap, ◌∙◌}
use mathlib.Core.Bool.{Bool, true, false, cond}
use mathlib.Core.List.{List, [], ◌∷◌}
use Prim.Native.Nat.{ℕ}
use native.Mathlib.Omega.{arith}
use borrow.Author.Tests.{eqb-true}
use lib.Dec.{eqb}
use lib.ListN.{length, get_or}
use lib.Seq.{take_all}
use Rattle.answers.specs.Conditions.{all}
use Rattle.answers.proofs.Conditions.{all_true, and_left, and_right}
use Rattle.lent.specs.KeptWords.{kept_numbers, kept_in, numbers_fit, zeros, is_kept, loaded, kept_words, KeptBack, KeptWordsBack, some_kept, SomeKept}
use Rattle.lent.proofs.SourceLaws.{elements, elements_are}

-- the words that are those of it are 4
pub held : (words : List ℕ) {kept : Option Kept} → loaded words ≡ Some kept → (length words ≡ 4) × (is_kept words ≡ true) × (kept ≡ kept_in words)
unfolding loaded
held words {kept} e = go (is_kept words) refl e
  where
    go : (b : Bool) → is_kept words ≡ b → cond b (Some (kept_in words)) None ≡ Some kept → (length words ≡ 4) × (is_kept words ≡ true) × (kept ≡ kept_in words)
    go true f e = (eqb-true (length words) 4 (and_left (eqb (length words) 4) (cond (eqb (get_or words 0 0) 1) (all (numbers_fit words)) (all (zeros words))) f), f, cc)
    go false f e = let z : ◌≡◌ {A = ℕ} 0 1 = cc in absurd (omega arith)

-- and those that are not are refused
pub other : (words : List ℕ) → loaded words ≡ None → is_kept words ≡ false
unfolding loaded
other words e = go (is_kept words) e
  where
    go : (b : Bool) → cond b (Some (kept_in words)) None ≡ None → b ≡ false
    go true e = let z : ◌≡◌ {A = ℕ} 0 1 = cc in absurd (omega arith)
    go false e = refl

pub length-kept : (kept : Option Kept) → length (kept_words kept) ≡ 4
length-kept (Some k) = refl
length-kept None = refl

pub kept_back : KeptBack
unfolding loaded
kept_back (Some k) e = rw e
kept_back None e = refl

-- the four words by themselves
four : (words : List ℕ) → length words ≡ 4 → words ≡ get_or words 0 0 ∷ get_or words 1 0 ∷ get_or words 2 0 ∷ get_or words 3 0 ∷ []
unfolding elements
four words h = sym (take_all 4 words (omega arith)) ∙ elements_are words 0 4 (omega arith)

pub kept_words_back : KeptWordsBack
kept_words_back words kept e =
    let h = held words e in
    let rest = and_right (eqb (length words) 4) _ h.1 in
    ap kept_words h.2 ∙ go (eqb (get_or words 0 0) 1) refl rest ∙ sym (four words h.0)
  where
    go : (b : Bool) → eqb (get_or words 0 0) 1 ≡ b → cond b (all (numbers_fit words)) (all (zeros words)) ≡ true
        → kept_words (cond b (Some (kept_numbers words)) None) ≡ get_or words 0 0 ∷ get_or words 1 0 ∷ get_or words 2 0 ∷ get_or words 3 0 ∷ []
    go true f g = ap (λ (n : ℕ). n ∷ get_or words 1 0 ∷ get_or words 2 0 ∷ get_or words 3 0 ∷ []) (sym (eqb-true (get_or words 0 0) 1 f))
    go false f g =
        let zero : (i : ℕ) → get_or (zeros words) i true ≡ true = λ i. all_true (zeros words) i g in
        λ i. sym (eqb-true (get_or words 0 0) 0 (zero 0)) i ∷ sym (eqb-true (get_or words 1 0) 0 (zero 1)) i ∷ sym (eqb-true (get_or words 2 0) 0 (zero 2)) i ∷ sym (eqb-true (get_or words 3 0) 0 (zero 3)) i ∷ []

pub some_kept_lem : SomeKept
some_kept_lem = record { typed = refl; held = kept_back some_kept refl }

used : Unit {0}
used =
    let back = kept_back some_kept some_kept_lem.typed in
    let words = kept_words_back (kept_words some_kept) some_kept some_kept_lem.held in
    tt
