use Rattle.answers.proofs.Conditions.{all_false, and_goes, was_true, was_false}
use Rattle.lent.specs.CompoundWords.{feedback_numbers, feedback_fits}
use Rattle.lent.proofs.FitLaws.{where_other, where_there}
use Rattle.lent.proofs.compound_words.feedback_fits.Goals as goal

pub returns-then-there-ne1 : goal.returns-then-there-ne1
unfolding feedback_fits
returns-then-there-ne1 c = where_other (feedback_numbers c.args.words.now) c.word_at-there.ensures c.if-there-ne1.true

pub returns-then-not-is_below : goal.returns-then-not-is_below
unfolding feedback_fits
returns-then-not-is_below c = where_there (feedback_numbers c.args.words.now) c.word_at-there.ensures c.if-there-ne1.false (all_false (feedback_numbers c.args.words.now) 0 (was_false c.is_below.ensures c.if-not-is_below.true))

pub returns : goal.returns
unfolding feedback_fits
returns c =
    where_there (feedback_numbers c.args.words.now) c.word_at-there.ensures c.if-there-ne1.false
    (and_goes _ _ _ (was_true c.is_below.ensures c.if-not-is_below.false) c.counts_fit.ensures)
