use borrow.Author.Tests.{eq-eqb, ne_eqb}
use Rattle.lent.proofs.feed_words.is_form_word.Goals as goal

pub returns-then-blocks-eq0 : goal.returns-then-blocks-eq0
returns-then-blocks-eq0 c = rw (eq-eqb c.args.blocks 0 c.if-blocks-eq0.true)

pub returns : goal.returns
returns c = rw (ne_eqb c.args.blocks 0 c.if-blocks-eq0.false) c.is_form.ensures
