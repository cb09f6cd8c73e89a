use mathlib.Core.Path.{sym, ap}
use Rattle.lent.specs.CompoundWords.{reporter_of}
use Rattle.lent.proofs.compound_words.reporter_in.Goals as goal

pub returns-in-Some : goal.returns-in-Some
unfolding reporter_of
returns-in-Some c = sym (ap reporter_of c.in-Some.is)

pub returns-in-None : goal.returns-in-None
unfolding reporter_of
returns-in-None c = sym (ap reporter_of c.in-None.is)
