use Rattle.std.specs.Prelude.{Some}
use mathlib.Core.Path.{ap}
use borrow.Author.Tests.{eq-eqb, ne_eqb}
use lib.ListN.{length}
use Rattle.answers.proofs.Conditions.{was_true, was_false}
use Rattle.lent.specs.CompoundWords.{loaded}
use Rattle.lent.proofs.compound_words.load.Goals as goal

pub returns-then-words-ne-WORDS : goal.returns-then-words-ne-WORDS
unfolding loaded
returns-then-words-ne-WORDS c = rw (ne_eqb (length c.args.words.now) 25 c.if-words-ne-WORDS.true)

pub returns-then-not-do_fit : goal.returns-then-not-do_fit
unfolding loaded
returns-then-not-do_fit c =
    rw (eq-eqb (length c.args.words.now) 25 c.if-words-ne-WORDS.false, was_false c.do_fit.ensures c.if-not-do_fit.true)

pub compound_of-requires : goal.compound_of-requires
compound_of-requires c = was_true c.do_fit.ensures c.if-not-do_fit.false

pub returns : goal.returns
unfolding loaded
returns c =
    rw (eq-eqb (length c.args.words.now) 25 c.if-words-ne-WORDS.false, was_true c.do_fit.ensures c.if-not-do_fit.false)
    (ap Some c.compound_of.ensures)
