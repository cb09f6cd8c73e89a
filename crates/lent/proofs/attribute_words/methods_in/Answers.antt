use mathlib.Core.List.{[], ◌∷◌}
use Rattle.lent.specs.AttributeWords.{attribute_in}
use Rattle.lent.proofs.attribute_words.methods_in.Goals as goal

pub returns : goal.returns
unfolding attribute_in
returns c =
    λ i.
    c.listed_at.ensures i
    ∷ c.listed_at-2.ensures i
    ∷ c.listed_at-3.ensures i
    ∷ c.listed_at-4.ensures i
    ∷ c.listed_at-5.ensures i
    ∷ c.listed_at-6.ensures i
    ∷ c.listed_at-7.ensures i
    ∷ c.listed_at-8.ensures i
    ∷ []
