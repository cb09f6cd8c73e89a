use borrow.Author.Tests.{eq-eqb, ne_eqb}
use Rattle.lent.proofs.feed_words.is_end.Goals as goal

pub returns-then-number-eq0 : goal.returns-then-number-eq0
returns-then-number-eq0 c = rw (eq-eqb _ _ c.if-number-eq0.true)

pub returns-then-number-eq1 : goal.returns-then-number-eq1
returns-then-number-eq1 c = rw (ne_eqb _ _ c.if-number-eq0.false, eq-eqb _ _ c.if-number-eq1.true)

pub returns-then-number-eq13 : goal.returns-then-number-eq13
returns-then-number-eq13 c = rw (ne_eqb _ _ c.if-number-eq0.false, ne_eqb _ _ c.if-number-eq1.false, eq-eqb _ _ c.if-number-eq13.true)

pub returns : goal.returns
returns c = rw (ne_eqb _ _ c.if-number-eq0.false, ne_eqb _ _ c.if-number-eq1.false, ne_eqb _ _ c.if-number-eq13.false)
