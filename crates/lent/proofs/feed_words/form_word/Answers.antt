use borrow.Author.Tests.{eq-eqb, ne_eqb}
use Rattle.lent.proofs.feed_words.form_word.Goals as goal

pub returns-then-u-eq0 : goal.returns-then-u-eq0
returns-then-u-eq0 c = rw (eq-eqb c.args.u.blocks 0 c.if-u-eq0.true)

pub returns : goal.returns
returns c = rw (ne_eqb c.args.u.blocks 0 c.if-u-eq0.false) c.number_of.ensures
