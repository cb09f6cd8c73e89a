use Rattle.sources.proofs.finding.has_room.Goals as goal

pub returns-then-stand : goal.returns-then-stand
returns-then-stand c = rw c.if-stand.true

pub returns : goal.returns
returns c = rw c.if-stand.false
