use borrow.Author.Tests.{eq-eqb, ne_eqb, lt-ltb, le-ltb}
use Rattle.sources.proofs.finding.with_ssrc.Goals as goal

pub returns-then-p-ssrc : goal.returns-then-p-ssrc
returns-then-p-ssrc c = rw (eq-eqb _ _ c.if-p-ssrc.true)

pub returns-then-p-ssrc-2 : goal.returns-then-p-ssrc-2
returns-then-p-ssrc-2 c = rw (ne_eqb _ _ c.if-p-ssrc.false, lt-ltb _ _ c.if-p-ssrc-2.true)

pub returns-else-p-ssrc-2 : goal.returns-else-p-ssrc-2
returns-else-p-ssrc-2 c = rw (ne_eqb _ _ c.if-p-ssrc.false, le-ltb _ _ c.if-p-ssrc-2.false)
