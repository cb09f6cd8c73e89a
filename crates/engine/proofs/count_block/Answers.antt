use Rattle.source.specs.Numbered.{count_as}
use mathlib.Core.Path.{sym, ◌∙◌}
use Rattle.answers.proofs.Conditions.{was_false, was_true}
use Rattle.source.specs.Blocks.{block_count}
use Rattle.engine.proofs.Counts.{no_block, a_block, roomy_of}
use mathlib.Core.Path.{ap}
use Rattle.engine.proofs.count_block.Goals as goal

pub returns-then-not-is_sound-clause-value : goal.returns-then-not-is_sound-clause-value
unfolding block_count
returns-then-not-is_sound-clause-value c = rw (was_false c.is_sound.ensures c.if-not-is_sound.true)

pub returns-then-not-is_sound-clause-numbered : goal.returns-then-not-is_sound-clause-numbered
returns-then-not-is_sound-clause-numbered c = ap count_as (returns-then-not-is_sound-clause-value c)

pub returns-then-n-eq0-clause-value : goal.returns-then-n-eq0-clause-value
unfolding block_count
returns-then-n-eq0-clause-value c =
    let a = c.args in
    rw (was_true c.is_sound.ensures c.if-not-is_sound.false, no_block a.width a.records.now (sym c.records_in-n.ensures ∙ c.if-n-eq0.true))

pub returns-then-n-eq0-clause-numbered : goal.returns-then-n-eq0-clause-numbered
returns-then-n-eq0-clause-numbered c = ap count_as (returns-then-n-eq0-clause-value c)

pub has_room-requires : goal.has_room-requires
has_room-requires c =
    let a = c.args in
    (was_true c.is_sound.ensures c.if-not-is_sound.false, (a_block a.width a.records.now c.records_in-n.ensures c.if-n-eq0.false).few)

pub count-requires : goal.count-requires
count-requires c =
    let a = c.args in (
      a_block a.width a.records.now c.records_in-n.ensures c.if-n-eq0.false,
      roomy_of a.s c.records_in-n.result (was_true c.is_sound.ensures c.if-not-is_sound.false) (was_true c.has_room.ensures c.if-not-has_room.false),
    )

pub returns-then-not-has_room : goal.returns-then-not-has_room
returns-then-not-has_room c = c.count_block.ensures

pub returns-clause-value : goal.returns-clause-value
returns-clause-value c = c.count.ensures

pub returns-clause-numbered : goal.returns-clause-numbered
returns-clause-numbered c = ap count_as c.count.ensures
