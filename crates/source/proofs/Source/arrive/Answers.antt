use mathlib.Core.Path.{sym}
use Rattle.answers.proofs.Conditions.{was_false, was_true}
use Rattle.source.specs.Numbered.{arrival_as}
use Rattle.source.proofs.Answers.{arrival_malformed, arrival_mark}
use mathlib.Core.Path.{ap}
use Rattle.source.proofs.Source.arrive.Goals as goal

pub returns-then-not-is_sound-clause-value : goal.returns-then-not-is_sound-clause-value
returns-then-not-is_sound-clause-value c =
    let a = c.args in
    sym (arrival_malformed a.self a.wire a.mark (was_false c.is_sound.ensures c.if-not-is_sound.true))

pub returns-then-not-is_sound-clause-numbered : goal.returns-then-not-is_sound-clause-numbered
returns-then-not-is_sound-clause-numbered c = ap arrival_as (returns-then-not-is_sound-clause-value c)

pub returns-then-mark-gt3-clause-value : goal.returns-then-mark-gt3-clause-value
returns-then-mark-gt3-clause-value c =
    let a = c.args in
    sym (arrival_mark a.self a.wire a.mark (was_true c.is_sound.ensures c.if-not-is_sound.false) c.if-mark-gt3.true)

pub returns-then-mark-gt3-clause-numbered : goal.returns-then-mark-gt3-clause-numbered
returns-then-mark-gt3-clause-numbered c = ap arrival_as (returns-then-mark-gt3-clause-value c)

pub step-requires : goal.step-requires
step-requires c = (was_true c.is_sound.ensures c.if-not-is_sound.false, c.if-mark-gt3.false)

pub returns-clause-value : goal.returns-clause-value
returns-clause-value c = c.step.ensures

pub returns-clause-numbered : goal.returns-clause-numbered
returns-clause-numbered c = ap arrival_as c.step.ensures
