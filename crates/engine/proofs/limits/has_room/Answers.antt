use native.Mathlib.Omega.{arith}
use Rattle.source.proofs.Facts.{sound_most}
use Rattle.engine.proofs.limits.has_room.Goals as goal

pub overflow_add-counted : goal.overflow_add-counted
overflow_add-counted c = omega (arith, sound_most c.args.s c.requires.0)

pub overflow_add-counted-2 : goal.overflow_add-counted-2
overflow_add-counted-2 c = omega (arith, sound_most c.args.s c.requires.0)

pub overflow_add-counted-3 : goal.overflow_add-counted-3
overflow_add-counted-3 c = omega (arith, sound_most c.args.s c.requires.0)

pub overflow_add-result : goal.overflow_add-result
overflow_add-result c = omega (arith, sound_most c.args.s c.requires.0)
