use Rattle.sources.proofs.Place.empty.Goals as goal

pub returns : goal.returns
returns c = λ i. record { ssrc = 0; source = c.fresh-source.ensures i }
