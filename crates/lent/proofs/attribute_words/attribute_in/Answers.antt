use mathlib.Core.Path.{ap, ◌∙◌}
use Rattle.lent.specs.AttributeWords.{mode_of, ect_of, attribute_in}
use Rattle.lent.proofs.attribute_words.attribute_in.Goals as goal

pub returns : goal.returns
unfolding attribute_in
returns c =
    let mode = c.mode_of.ensures ∙ ap mode_of c.word_at-2.ensures in
    let ect = c.ect_of.ensures ∙ ap ect_of c.word_at-3.ensures in
    λ i.
    record {
      used = c.word_at.ensures i;
      methods = c.methods_in.ensures i;
      mode = mode i;
      ect = ect i;
    }
