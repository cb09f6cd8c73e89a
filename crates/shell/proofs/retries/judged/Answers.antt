use borrow.Author.Rules.{rules}
use mathlib.Core.Path.{ap, ◌∙◌}
use mir.Syntax.{w32}
use mir.ValLaws.{to_z-of_z}
use Rattle.shell.specs.Tries.{tries_after, retried_of}
use Rattle.shell.proofs.Answered.{judged_error, judged_nothing, judged_bytes, counts}
use Rattle.shell.proofs.retries.judged.Goals as goal

pub returns-then-answer-lt0 : goal.returns-then-answer-lt0
returns-then-answer-lt0 c =
    let a = c.args in
    c.retried.ensures
    ∙ ap retried_of (c.tries_after.ensures ∙ ap (tries_after a.left) (to_z-of_z w32 a.error (search rules)))
    ∙ judged_error a.answer a.error a.left a.most (search rules) c.if-answer-lt0.true

pub returns-then-answer-eq0 : goal.returns-then-answer-eq0
returns-then-answer-eq0 c =
    let a = c.args in
    judged_nothing a.answer a.error a.left a.most (search rules) c.if-answer-eq0.true

pub overflow_cast-answer : goal.overflow_cast-answer
overflow_cast-answer c = counts c.args.answer (search rules) c.if-answer-lt0.false

pub returns : goal.returns
returns c =
    let a = c.args in
    judged_bytes a.answer a.error a.left a.most c.least.result (search rules) c.if-answer-lt0.false c.if-answer-eq0.false c.least.ensures
