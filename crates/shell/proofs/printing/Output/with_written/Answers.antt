use Rattle.shell.proofs.printing.Output.with_written.Goals as goal

pub returns-in-Ok : goal.returns-in-Ok
returns-in-Ok c = rw c.in-Ok.is c.with_kept.ensures

pub returns-in-Err-Room : goal.returns-in-Err-Room
returns-in-Err-Room c = rw c.in-Err-Room.is c.with_kept-in-Err-Room.ensures

pub returns-in-Err-Refused : goal.returns-in-Err-Refused
returns-in-Err-Refused c = rw c.in-Err-Refused.is c.with_kept-in-Err-Refused.ensures
