use Rattle.sdp.proofs.steps.step_at.Goals as goal

pub returns-in-Methods : goal.returns-in-Methods
returns-in-Methods c = rw c.in-Methods.is c.method_step.ensures

pub returns-in-Parms : goal.returns-in-Parms
returns-in-Parms c = rw c.in-Parms.is c.parm_step.ensures
