use lib.Dec.{eqb}
use Rattle.answers.proofs.Conditions.{all_true}
use Rattle.lent.specs.CompoundWords.{words_fit, compound_of}
use Rattle.lent.proofs.compound_words.compound_of.Goals as goal

pub report_of-report-requires : goal.report_of-report-requires
report_of-report-requires c = all_true (words_fit c.args.words.now) 0 c.requires

pub feedback_of-feedback-requires : goal.feedback_of-feedback-requires
feedback_of-feedback-requires c = all_true (words_fit c.args.words.now) 1 c.requires

pub summary_of-summary-requires : goal.summary_of-summary-requires
summary_of-summary-requires c = all_true (words_fit c.args.words.now) 2 c.requires

pub returns : goal.returns
unfolding compound_of
returns c =
    λ i. record {
      report = c.report_of-report.ensures i;
      feedback = c.feedback_of-feedback.ensures i;
      summary = c.summary_of-summary.ensures i;
      reporting = eqb (c.word_at-reporting.ensures i) 1;
    }
