use mathlib.Core.Path.{sym, ap, ◌∙◌}
use Rattle.lent.specs.CallWords.{call_words}
use Rattle.lent.proofs.call_words.words_of.Goals as goal

pub returns-in-Report : goal.returns-in-Report
unfolding call_words
returns-in-Report c = c.report_words.ensures ∙ sym (ap call_words c.in-Report.is)

pub returns-in-Heard : goal.returns-in-Heard
unfolding call_words
returns-in-Heard c = sym (ap call_words c.in-Heard.is)
