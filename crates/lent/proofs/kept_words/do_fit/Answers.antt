use Rattle.answers.proofs.Conditions.{all_false, and_goes, was_true, was_false}
use Rattle.lent.specs.KeptWords.{numbers_fit}
use Rattle.lent.proofs.kept_words.do_fit.Goals as goal

pub returns-then-not-is_below : goal.returns-then-not-is_below
returns-then-not-is_below c = all_false (numbers_fit c.args.words.now) 0 (was_false c.is_below.ensures c.if-not-is_below.true)

pub returns : goal.returns
returns c = and_goes _ _ _ (was_true c.is_below.ensures c.if-not-is_below.false) c.counts_fit.ensures
