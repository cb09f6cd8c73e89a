use Rattle.sources.proofs.calls.no_change.Goals as goal

pub returns : goal.returns
returns c = λ i. record { from = 0; end = 0; place = c.empty-place.ensures i }
