use mathlib.Core.Path.{refl, sym, ap, ◌∙◌}
use Prim.Native.Nat.{ℕ}
use native.Mathlib.Omega.{arith}
use borrow.Author.Tests.{eqb-true, eqb-false}
use lib.ListN.{length}
use Rattle.answers.proofs.Conditions.{was_true, was_false}
use Rattle.answers.proofs.Stores.{wrote_all, wrote_same}
use Rattle.table.specs.Lines.{refused_line}
use Rattle.forms.proofs.PieceCalls.{told_refused, told_whole, told_part}
use Rattle.forms.proofs.pieces.tell_end.Goals as goal

pub returns-then-is_empty : goal.returns-then-is_empty
returns-then-is_empty c =
    let a = c.args in
    wrote_same refl (sym (told_whole a.block a.rest.now c.in-None.is (eqb-true (length a.rest.now) 0 (was_true c.is_empty.ensures c.if-is_empty.true)))) (wrote_all _ a.err.now refl (omega arith) refl refl)

pub returns-in-Some : goal.returns-in-Some
returns-in-Some c =
    let a = c.args in
    wrote_same refl (ap (λ (n : ℕ). refused_line n a.block) c.number.ensures ∙ sym (told_refused a.block a.rest.now c.in-Some.is))
    c.write_refused.ensures

pub returns-else-is_empty : goal.returns-else-is_empty
returns-else-is_empty c =
    let a = c.args in
    wrote_same refl
    (ap (λ (n : ℕ). refused_line n a.block) c.number-in-None.ensures ∙ sym (told_part a.block a.rest.now c.in-None.is (omega (arith, eqb-false (length a.rest.now) 0 (was_false c.is_empty.ensures c.if-is_empty.false)))))
    c.write_refused-in-None.ensures
