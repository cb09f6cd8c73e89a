use mathlib.Core.Path.{ap, ◌∙◌}
use lib.Seq.{sets}
use Rattle.lent.proofs.attribute_words.store.Goals as goal

pub returns : goal.returns
returns c =
    let words = c.args.words.now in
    c.put_all.ensures ∙ ap (sets words 0) c.words_of.ensures
