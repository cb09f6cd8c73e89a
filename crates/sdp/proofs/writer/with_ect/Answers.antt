use Rattle.sdp.proofs.writer.with_ect.Goals as goal

pub returns-in-Zero : goal.returns-in-Zero
returns-in-Zero c = rw c.in-Zero.is c.with.ensures

pub returns-in-One : goal.returns-in-One
returns-in-One c = rw c.in-One.is c.with-in-One.ensures

pub returns-in-Random : goal.returns-in-Random
returns-in-Random c = rw c.in-Random.is c.with-in-Random.ensures
