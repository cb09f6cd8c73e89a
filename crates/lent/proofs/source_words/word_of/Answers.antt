use mathlib.Core.Path.{sym, ap}
use Rattle.lent.specs.SourceWords.{remembered_word}
use Rattle.lent.proofs.source_words.word_of.Goals as goal

pub returns-in-Some : goal.returns-in-Some
returns-in-Some c = sym (ap remembered_word c.in-Some.is)
