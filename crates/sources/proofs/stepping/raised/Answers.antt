use Rattle.sources.proofs.stepping.raised.Goals as goal

pub returns : goal.returns
returns c = λ i. record { jumped = (c.with_block-after.ensures i).jumped; restarts = (c.with_block-after.ensures i).restarts }
