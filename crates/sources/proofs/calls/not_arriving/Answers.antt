use Rattle.sources.proofs.calls.not_arriving.Goals as goal

pub returns : goal.returns
returns c = rw c.no_change-change.ensures
