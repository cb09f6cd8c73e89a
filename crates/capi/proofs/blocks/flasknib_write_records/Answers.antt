use Rattle.std.specs.Prelude.{Some}
use borrow.Author.Rules.{rules}
use mathlib.Core.Path.{ap}
use mathlib.Core.Bool.{Bool, cond}
use native.Mathlib.Nat.{le_of_eq}
use native.Mathlib.Omega.{arith}
use Rattle.answers.specs.declared.Refusal.TheVariants.{Limits}
use Rattle.answers.proofs.Conditions.{was_true, was_false}
use Rattle.answers.proofs.Stores.{wrote_size, wrote_refused}
use Rattle.format.specs.Forms.{shape_of}
use Rattle.trace.specs.Layout.{records_block}
use Rattle.trace.specs.Writing.{body_fault}
use Rattle.lent.specs.FormWords.{form_of}
use Rattle.capi.proofs.Lengths.{records_length}
use Rattle.capi.proofs.Answers.{coded}
use Rattle.capi.proofs.blocks.flasknib_write_records.Goals as goal

pub returns-then-not-is_form : goal.returns-then-not-is_form
returns-then-not-is_form c =
    let a = c.args in
    let unknown = was_false c.is_form.ensures c.if-not-is_form.true in
    coded (search rules) c.length.ensures
    (wrote_refused (records_block (shape_of (form_of a.form)) a.records.now a.ssrc) a.out.now
    (ap (λ (known : Bool). cond known (body_fault (shape_of (form_of a.form)) a.records.now) (Some Limits)) unknown))

pub length-requires-2 : goal.length-requires-2
length-requires-2 c = omega (arith, wrote_size 512 (λ e. le_of_eq (records_length c.form_of.result _ _ e)) c.write_records.ensures)

pub returns : goal.returns
returns c =
    let known = was_true c.is_form.ensures c.if-not-is_form.false in
    rw (known, ← c.form_of.ensures) (coded (search rules) c.length-2.ensures c.write_records.ensures)
