use Rattle.sdp.specs.Writing.{with_parms}
use Rattle.sdp.proofs.Texting.{grown_none, grown_grown, parms_behind}
use Rattle.sdp.proofs.writer.with_parms.Goals as goal

pub returns-in-None-None : goal.returns-in-None-None
unfolding with_parms
returns-in-None-None c = rw (c.in-None-None.is-0, c.in-None-None.is-1) (grown_none _)

pub returns-in-None-Some : goal.returns-in-None-Some
unfolding with_parms
returns-in-None-Some c = rw (c.in-None-Some.is-0, c.in-None-Some.is-1) (grown_grown c.with.ensures c.with_ect.ensures)

pub returns-in-Some-None : goal.returns-in-Some-None
unfolding with_parms
returns-in-Some-None c =
    rw (c.in-Some-None.is-0, c.in-Some-None.is-1) (grown_grown c.with-in-Some-None.ensures c.with_mode.ensures.grown)

pub returns-in-Some-Some : goal.returns-in-Some-Some
unfolding with_parms
returns-in-Some-Some c =
    rw (c.in-Some-Some.is-0, c.in-Some-Some.is-1, parms_behind)
    (grown_grown (grown_grown c.with-in-Some-Some.ensures c.with_mode-in-Some-Some.ensures.grown)
    (grown_grown c.with-in-Some-Some-2.ensures c.with_ect-in-Some-Some.ensures))
