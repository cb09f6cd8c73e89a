use Rattle.std.specs.Prelude.{Some}
use borrow.Author.Rules.{rules}
use mathlib.Core.Path.{ap}
use mathlib.Core.Bool.{Bool, cond}
use native.Mathlib.Nat.{le_of_eq}
use native.Mathlib.Omega.{arith}
use Rattle.answers.specs.declared.Refusal.TheVariants.{Limits}
use Rattle.answers.proofs.Conditions.{was_true, was_false}
use Rattle.answers.proofs.Stores.{wrote_size, wrote_refused}
use Rattle.format.specs.Forms.{shape_of}
use Rattle.trace.specs.Layout.{arrivals_block}
use Rattle.trace.specs.Writing.{records_of, arrivals_fault}
use Rattle.lent.specs.FormWords.{form_of}
use Rattle.capi.proofs.Lengths.{arrivals_length}
use Rattle.capi.proofs.Answers.{coded}
use Rattle.capi.proofs.blocks.flasknib_write_arrivals.Goals as goal

pub returns-then-not-is_form : goal.returns-then-not-is_form
returns-then-not-is_form c =
    let a = c.args in
    let unknown = was_false c.is_form.ensures c.if-not-is_form.true in
    coded (search rules) c.length.ensures
    (wrote_refused (arrivals_block (shape_of (form_of a.form)) (records_of a.times.now a.numbers.now a.marks.now) a.ssrc) a.out.now
    (ap (λ (known : Bool). cond known (arrivals_fault (shape_of (form_of a.form)) a.times.now a.numbers.now a.marks.now) (Some Limits)) unknown))

pub length-requires-2 : goal.length-requires-2
length-requires-2 c = omega (arith, wrote_size 512 (λ e. le_of_eq (arrivals_length c.form_of.result _ _ _ _ e)) c.write_arrivals.ensures)

pub returns : goal.returns
returns c =
    let known = was_true c.is_form.ensures c.if-not-is_form.false in
    rw (known, ← c.form_of.ensures) (coded (search rules) c.length-2.ensures c.write_arrivals.ensures)
