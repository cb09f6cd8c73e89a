use Rattle.answers.proofs.Conditions.{was_true, was_false}
use Rattle.walk.proofs.Putting.{step_refuses}
use Rattle.convert.specs.Runs.{row_in, call_next}
use Rattle.convert.proofs.Steps.{call_malformed, call_sound}
use Rattle.convert.proofs.Run.block.Goals as goal

pub returns-then-not-is_sound : goal.returns-then-not-is_sound
returns-then-not-is_sound c =
    let a = c.args in
    let zeroth = a.zeroth.now in
    let b = a.block.now in
    step_refuses a.self (row_in zeroth (call_next a.self zeroth b)) a.out.now (call_malformed a.self zeroth b (was_false c.is_sound.ensures c.if-not-is_sound.true)) c.refused.ensures.0 c.refused.ensures.1

pub step-requires : goal.step-requires
step-requires c = was_true c.is_sound.ensures c.if-not-is_sound.false

pub returns : goal.returns
returns c =
    let a = c.args in
    rw (call_sound a.self a.zeroth.now a.block.now (was_true c.is_sound.ensures c.if-not-is_sound.false)) c.step.ensures
