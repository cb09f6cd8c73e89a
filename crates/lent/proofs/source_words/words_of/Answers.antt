use borrow.Author.Rules.{rules}
use mathlib.Core.Path.{ap, ap₂, ◌∙◌}
use mathlib.Core.List.{List, [], ◌∷◌}
use Prim.Native.Nat.{ℕ, ◌^◌}
use Rattle.numbers.specs.Integers.{modulo}
use Rattle.numbers.proofs.Signed.{seen_is}
use Rattle.lent.specs.SourceWords.{source_words}
use Rattle.lent.proofs.source_words.words_of.Goals as goal

pub returns : goal.returns
unfolding source_words
returns c =
    let s = c.args.s in
    let base = c.complement.ensures ∙ ap (modulo (2 ^ 64)) (seen_is s.base.0 (search rules)) in
    let highest = c.complement-2.ensures ∙ ap (modulo (2 ^ 64)) (seen_is s.highest.0 (search rules)) in
    let tail : ℕ → List ℕ = λ z. s.notect ∷ s.ect1 ∷ s.ect0 ∷ s.ce ∷ s.duplicates ∷ s.history.recent ∷ s.history.older ∷ z ∷ [] in
    ap₂ (λ (x y : ℕ). x ∷ y ∷ tail c.word_of.result) base highest
    ∙ ap (λ (z : ℕ). modulo (2 ^ 64) s.base.0 ∷ modulo (2 ^ 64) s.highest.0 ∷ tail z) c.word_of.ensures
