use mathlib.Core.List.{[], ◌∷◌}
use Rattle.lent.specs.AttributeWords.{attribute_words}
use Rattle.lent.proofs.attribute_words.words_of.Goals as goal

pub returns : goal.returns
unfolding attribute_words
returns c =
    λ i.
    c.args.a.used
    ∷ c.place_word.ensures i
    ∷ c.place_word-2.ensures i
    ∷ c.place_word-3.ensures i
    ∷ c.place_word-4.ensures i
    ∷ c.place_word-5.ensures i
    ∷ c.place_word-6.ensures i
    ∷ c.place_word-7.ensures i
    ∷ c.place_word-8.ensures i
    ∷ c.mode_number.ensures i
    ∷ c.ect_number.ensures i
    ∷ []
