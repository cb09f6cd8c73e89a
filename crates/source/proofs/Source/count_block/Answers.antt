use Rattle.answers.proofs.Conditions.{was_false, was_true}
use Rattle.source.specs.Numbered.{count_as}
use Rattle.source.specs.Blocks.{block_count}
use mathlib.Core.Path.{ap}
use Rattle.source.proofs.Source.count_block.Goals as goal

pub returns-then-not-is_sound-clause-value : goal.returns-then-not-is_sound-clause-value
unfolding block_count
returns-then-not-is_sound-clause-value c = rw (was_false c.is_sound.ensures c.if-not-is_sound.true)

pub returns-then-not-is_sound-clause-numbered : goal.returns-then-not-is_sound-clause-numbered
returns-then-not-is_sound-clause-numbered c = ap count_as (returns-then-not-is_sound-clause-value c)

pub returns-then-not-in_limits-clause-value : goal.returns-then-not-in_limits-clause-value
unfolding block_count
returns-then-not-in_limits-clause-value c =
    rw (was_true c.is_sound.ensures c.if-not-is_sound.false, was_false c.in_limits.ensures c.if-not-in_limits.true)

pub returns-then-not-in_limits-clause-numbered : goal.returns-then-not-in_limits-clause-numbered
returns-then-not-in_limits-clause-numbered c = ap count_as (returns-then-not-in_limits-clause-value c)

pub count-requires : goal.count-requires
count-requires c =
    (was_true c.is_sound.ensures c.if-not-is_sound.false, was_true c.in_limits.ensures c.if-not-in_limits.false)

pub returns-clause-value : goal.returns-clause-value
unfolding block_count
returns-clause-value c =
    rw (was_true c.is_sound.ensures c.if-not-is_sound.false, was_true c.in_limits.ensures c.if-not-in_limits.false) c.count.ensures

pub returns-clause-numbered : goal.returns-clause-numbered
returns-clause-numbered c = ap count_as (returns-clause-value c)
