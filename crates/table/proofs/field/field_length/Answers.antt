use native.Mathlib.Omega.{arith}
use Rattle.table.proofs.Texts.{length-quoted, length-bare, doubled_length}
use Rattle.answers.proofs.Conditions.{was_true, was_false}
use Rattle.table.proofs.field.field_length.Goals as goal

pub returns-then-not-has_special : goal.returns-then-not-has_special
returns-then-not-has_special c =
    let s = c.args.s.now in omega (arith, length-bare s (was_false c.has_special.ensures c.if-not-has_special.true))

pub overflow_add-result : goal.overflow_add-result
overflow_add-result c = omega (arith, doubled_length c.args.s.now)

pub returns : goal.returns
returns c =
    let s = c.args.s.now in omega (arith, length-quoted s (was_true c.has_special.ensures c.if-not-has_special.false))
