use mathlib.Core.Path.{sym, ap, ◌∙◌}
use Rattle.answers.proofs.Conditions.{was_true, was_false}
use Rattle.capi.specs.Blocks.{later_code}
use Rattle.capi.proofs.blocks.flasknib_read_own.Goals as goal

pub returns-then-not-is_form : goal.returns-then-not-is_form
returns-then-not-is_form c =
    let unknown = was_false c.is_form.ensures c.if-not-is_form.true in
    rw (unknown, c.number.ensures)

pub returns-in-Ok : goal.returns-in-Ok
returns-in-Ok c =
    let known = was_true c.is_form.ensures c.if-not-is_form.false in
    let told = sym c.read_own.ensures.value ∙ c.in-Ok.is in
    rw (known, ← c.form_of.ensures, ap later_code told)

pub returns-in-Err : goal.returns-in-Err
returns-in-Err c =
    let known = was_true c.is_form.ensures c.if-not-is_form.false in
    let told = sym c.read_own.ensures.value ∙ c.in-Err.is in
    rw (known, ← c.form_of.ensures, c.number-in-Err.ensures, ap later_code told)
