use Rattle.std.proofs.Common.{◌∙◌}
use Rattle.trace.specs.Numbered.{read_as}
use Rattle.trace.proofs.Decisions.{not_whole, wrong_check, right_check_lem}
use Rattle.answers.proofs.Conditions.{was_false, was_true}
use mathlib.Core.Path.{ap}
use Rattle.trace.proofs.read.read_block.Goals as goal

pub returns-then-b-ne-BLOCK-clause-value : goal.returns-then-b-ne-BLOCK-clause-value
returns-then-b-ne-BLOCK-clause-value c = not_whole _ c.if-b-ne-BLOCK.true

pub returns-then-b-ne-BLOCK-clause-numbered : goal.returns-then-b-ne-BLOCK-clause-numbered
returns-then-b-ne-BLOCK-clause-numbered c = ap read_as (returns-then-b-ne-BLOCK-clause-value c)

pub returns-then-not-right_check-clause-value : goal.returns-then-not-right_check-clause-value
returns-then-not-right_check-clause-value c =
    wrong_check c.args.b.now c.if-b-ne-BLOCK.false (was_false c.right_check.ensures c.if-not-right_check.true)

pub returns-then-not-right_check-clause-numbered : goal.returns-then-not-right_check-clause-numbered
returns-then-not-right_check-clause-numbered c = ap read_as (returns-then-not-right_check-clause-value c)

pub returns-clause-value : goal.returns-clause-value
returns-clause-value c =
    c.contents.ensures ∙ right_check_lem c.args.b.now c.if-b-ne-BLOCK.false (was_true c.right_check.ensures c.if-not-right_check.false)

pub returns-clause-numbered : goal.returns-clause-numbered
returns-clause-numbered c = ap read_as (returns-clause-value c)
