use mathlib.Core.Path.{ap, ◌∙◌}
use Rattle.lent.specs.AttributeWords.{method_of}
use Rattle.lent.proofs.attribute_words.listed_at.Goals as goal

pub returns : goal.returns
returns c = c.method_of.ensures ∙ ap method_of c.word_at.ensures
