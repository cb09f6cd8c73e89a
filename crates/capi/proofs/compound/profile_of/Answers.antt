use borrow.Author.Tests.{eq-eqb, ne_eqb}
use Rattle.capi.proofs.compound.profile_of.Goals as goal

pub returns-then-number-eq1 : goal.returns-then-number-eq1
returns-then-number-eq1 c = rw (eq-eqb _ _ c.if-number-eq1.true)

pub returns : goal.returns
returns c = rw (ne_eqb _ _ c.if-number-eq1.false)
