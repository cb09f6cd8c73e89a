use Rattle.answers.proofs.Conditions.{was_true, was_false}
use Rattle.forms.proofs.Steps.{takes_refuses, call_malformed, call_sound}
use Rattle.forms.proofs.Conversion.block.Goals as goal

pub returns-then-not-is_sound : goal.returns-then-not-is_sound
returns-then-not-is_sound c =
    let a = c.args in
    rw c.refused.ensures
    (takes_refuses a.self a.part.now a.out.now (call_malformed a.self a.part.now a.block.now (was_false c.is_sound.ensures c.if-not-is_sound.true)))

pub step-requires : goal.step-requires
step-requires c = was_true c.is_sound.ensures c.if-not-is_sound.false

pub returns : goal.returns
returns c =
    let a = c.args in
    rw (call_sound a.self a.part.now a.block.now (was_true c.is_sound.ensures c.if-not-is_sound.false)) c.step.ensures
