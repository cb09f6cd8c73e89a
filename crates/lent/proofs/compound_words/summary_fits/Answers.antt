use Rattle.lent.specs.Widths.{counts_fit}
use Rattle.lent.specs.CompoundWords.{summary_fits}
use Rattle.lent.proofs.FitLaws.{where_other, where_there}
use Rattle.lent.proofs.compound_words.summary_fits.Goals as goal

pub returns-then-there-ne1 : goal.returns-then-there-ne1
unfolding summary_fits
returns-then-there-ne1 c = where_other (counts_fit c.args.words.now 19 21) c.word_at-there.ensures c.if-there-ne1.true

pub returns : goal.returns
unfolding summary_fits
returns c = where_there (counts_fit c.args.words.now 19 21) c.word_at-there.ensures c.if-there-ne1.false c.counts_fit.ensures
