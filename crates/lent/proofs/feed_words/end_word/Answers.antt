use mathlib.Core.Path.{sym, ap, ◌∙◌}
use Rattle.lent.specs.FeedWords.{end_word}
use Rattle.lent.proofs.feed_words.end_word.Goals as goal

pub returns-in-Some : goal.returns-in-Some
returns-in-Some c = c.number.ensures ∙ sym (ap end_word c.in-Some.is)
