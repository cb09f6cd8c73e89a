use mathlib.Core.Path.{sym, ◌∙◌}
use mathlib.Core.Bool.{and-true}
use Rattle.answers.proofs.Conditions.{all_false, and_goes, was_true, was_false}
use Rattle.lent.specs.CompoundWords.{report_numbers, report_fits}
use Rattle.lent.proofs.FitLaws.{where_other, where_there}
use Rattle.lent.proofs.compound_words.report_fits.Goals as goal

pub returns-then-there-ne1 : goal.returns-then-there-ne1
unfolding report_fits
returns-then-there-ne1 c = where_other (report_numbers c.args.words.now) c.word_at-there.ensures c.if-there-ne1.true

pub returns-then-not-is_below : goal.returns-then-not-is_below
unfolding report_fits
returns-then-not-is_below c = where_there (report_numbers c.args.words.now) c.word_at-there.ensures c.if-there-ne1.false (all_false (report_numbers c.args.words.now) 0 (was_false c.is_below.ensures c.if-not-is_below.true))

pub returns : goal.returns
unfolding report_fits
returns c =
    where_there (report_numbers c.args.words.now) c.word_at-there.ensures c.if-there-ne1.false
    (and_goes _ _ _ (was_true c.is_below.ensures c.if-not-is_below.false) (c.is_below-2.ensures ∙ sym (and-true _)))
