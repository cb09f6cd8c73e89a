use mathlib.Core.Path.{sym, ap}
use Rattle.lent.specs.CompoundWords.{feedback_words}
use Rattle.lent.proofs.compound_words.feedback_in.Goals as goal

pub returns-in-Some : goal.returns-in-Some
unfolding feedback_words
returns-in-Some c = sym (ap feedback_words c.in-Some.is)

pub returns-in-None : goal.returns-in-None
unfolding feedback_words
returns-in-None c = sym (ap feedback_words c.in-None.is)
