use mathlib.Core.Path.{sym, ap}
use Rattle.lent.specs.CompoundWords.{summary_words}
use Rattle.lent.proofs.compound_words.summary_in.Goals as goal

pub returns-in-Some : goal.returns-in-Some
unfolding summary_words
returns-in-Some c = sym (ap summary_words c.in-Some.is)

pub returns-in-None : goal.returns-in-None
unfolding summary_words
returns-in-None c = sym (ap summary_words c.in-None.is)
