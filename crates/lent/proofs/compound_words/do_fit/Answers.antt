use mathlib.Core.Path.{sym, ap, ◌∙◌}
use mathlib.Core.Bool.{and-true}
use Prim.Native.Nat.{ℕ}
use lib.Dec.{leb}
use Rattle.answers.proofs.Conditions.{all_false, and_goes, was_true, was_false}
use Rattle.lent.specs.CompoundWords.{words_fit}
use Rattle.lent.proofs.compound_words.do_fit.Goals as goal

pub returns-then-not-report_fits : goal.returns-then-not-report_fits
returns-then-not-report_fits c = all_false (words_fit c.args.words.now) 0 (was_false c.report_fits.ensures c.if-not-report_fits.true)

pub returns-then-not-feedback_fits : goal.returns-then-not-feedback_fits
returns-then-not-feedback_fits c = all_false (words_fit c.args.words.now) 1 (was_false c.feedback_fits.ensures c.if-not-feedback_fits.true)

pub returns-then-not-summary_fits : goal.returns-then-not-summary_fits
returns-then-not-summary_fits c = all_false (words_fit c.args.words.now) 2 (was_false c.summary_fits.ensures c.if-not-summary_fits.true)

pub returns : goal.returns
returns c =
    and_goes _ _ _ (was_true c.report_fits.ensures c.if-not-report_fits.false)
    (and_goes _ _ _ (was_true c.feedback_fits.ensures c.if-not-feedback_fits.false)
    (and_goes _ _ _ (was_true c.summary_fits.ensures c.if-not-summary_fits.false)
    (ap (λ (n : ℕ). leb n 1) c.word_at.ensures ∙ sym (and-true _))))
