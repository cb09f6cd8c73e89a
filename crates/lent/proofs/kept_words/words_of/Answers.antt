use mathlib.Core.Path.{sym, ap}
use Rattle.lent.specs.KeptWords.{kept_words}
use Rattle.lent.proofs.kept_words.words_of.Goals as goal

pub returns-in-Some : goal.returns-in-Some
returns-in-Some c = sym (ap kept_words c.in-Some.is)
