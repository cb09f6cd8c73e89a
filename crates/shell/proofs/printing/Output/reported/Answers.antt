use borrow.Author.Rules.{rules}
use mathlib.Core.Path.{sym, ◌∙◌}
use mathlib.Core.Bool.{true, false}
use native.Mathlib.Omega.{arith}
use borrow.Author.Tests.{eq-eqb, ne_eqb}
use lib.IntN.{pos}
use mir.Syntax.{w32}
use mir.Val.{of_z}
use Rattle.answers.proofs.Conditions.{was_false, was_true, and_ends, and_goes}
use Rattle.numbers.specs.Integers.{eq_z}
use Rattle.shell.specs.Writes.{has_failed, is_told}
use Rattle.shell.proofs.Answered.{bits_are}
use Rattle.shell.proofs.printing.Output.reported.Goals as goal

pub returns-then-not-has_failed : goal.returns-then-not-has_failed
unfolding is_told
returns-then-not-has_failed c =
    let a = c.args in
    and_ends (has_failed a.done) (eq_z a.self.fd (pos 1)) (was_false c.has_failed.ensures c.if-not-has_failed.true)

pub returns-then-self-ne-STDOUT_FILENO : goal.returns-then-self-ne-STDOUT_FILENO
unfolding is_told
returns-then-self-ne-STDOUT_FILENO c =
    let a = c.args in
    and_goes (has_failed a.done) (eq_z a.self.fd (pos 1)) false (was_true c.has_failed.ensures c.if-not-has_failed.false)
    (sym (sym (bits_are a.self.fd 1 (omega arith) (search rules)) ∙ ne_eqb (of_z w32 a.self.fd) 1 c.if-self-ne-STDOUT_FILENO.true))

pub returns : goal.returns
unfolding is_told
returns c =
    let a = c.args in
    and_goes (has_failed a.done) (eq_z a.self.fd (pos 1)) true
    (was_true c.has_failed.ensures c.if-not-has_failed.false)
    (sym (sym (bits_are a.self.fd 1 (omega arith) (search rules)) ∙ eq-eqb (of_z w32 a.self.fd) 1 c.if-self-ne-STDOUT_FILENO.false))
