use Rattle.std.specs.Prelude.{Some}
use mathlib.Core.Path.{ap}
use Rattle.lent.specs.Widths.{counts_fit}
use Rattle.lent.specs.CompoundWords.{summary_fits}
use Rattle.lent.proofs.FitLaws.{is_there, not_there, where_fits}
use Rattle.lent.proofs.compound_words.summary_of.Goals as goal

pub returns-then-word_at-ne1 : goal.returns-then-word_at-ne1
returns-then-word_at-ne1 c = rw (not_there c.word_at.ensures c.if-word_at-ne1.true)

pub counts_of-counts-requires : goal.counts_of-counts-requires
unfolding summary_fits
counts_of-counts-requires c = where_fits (counts_fit c.args.words.now 19 21) c.word_at.ensures c.if-word_at-ne1.false c.requires

pub returns : goal.returns
returns c = rw (is_there c.word_at.ensures c.if-word_at-ne1.false) (ap Some c.counts_of-counts.ensures)
