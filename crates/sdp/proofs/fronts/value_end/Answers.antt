use borrow.Author.Tests.{eq-eqb, ne_eqb}
use Rattle.answers.proofs.Conditions.{cond_ends, cond_goes}
use Rattle.sdp.specs.Lengths.{value_end}
use Rattle.sdp.proofs.fronts.value_end.Goals as goal

pub returns-then-byte_at-eq34 : goal.returns-then-byte_at-eq34
unfolding value_end
returns-then-byte_at-eq34 c = rw (← c.byte_at.ensures) (cond_ends _ _ _ _ (eq-eqb _ _ c.if-byte_at-eq34.true) c.string_end.ensures)

pub returns : goal.returns
unfolding value_end
returns c = rw (← c.byte_at.ensures) (cond_goes _ _ _ _ (ne_eqb _ _ c.if-byte_at-eq34.false) c.token_end.ensures)
