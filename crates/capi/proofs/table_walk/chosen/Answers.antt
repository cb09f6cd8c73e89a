use borrow.Author.Tests.{eq-eqb, ne_eqb}
use Rattle.capi.proofs.table_walk.chosen.Goals as goal

pub returns-then-here-ssrc : goal.returns-then-here-ssrc
returns-then-here-ssrc c = rw (eq-eqb _ _ c.if-here-ssrc.true)

pub returns : goal.returns
returns c = rw (ne_eqb _ _ c.if-here-ssrc.false)
