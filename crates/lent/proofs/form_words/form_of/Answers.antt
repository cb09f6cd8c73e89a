use borrow.Author.Tests.{eq-eqb, ne_eqb}
use Rattle.lent.proofs.form_words.form_of.Goals as goal

pub returns-then-number-eq2 : goal.returns-then-number-eq2
returns-then-number-eq2 c = rw (eq-eqb _ _ c.if-number-eq2.true)

pub returns : goal.returns
returns c = rw (ne_eqb _ _ c.if-number-eq2.false)
