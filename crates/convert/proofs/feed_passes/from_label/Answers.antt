use mathlib.Core.Path.{refl, sym, ◌∙◌}
use native.Mathlib.Omega.{arith}
use Rattle.walk.specs.Pieces.{whole_in}
use Rattle.convert.proofs.Feeding.{taken_few, label_goes, label_refused, passes_label, passes_no_label}
use Rattle.convert.proofs.Fitted.{kept}
use Rattle.convert.proofs.Kept.{sound_good, start_good}
use Rattle.convert.proofs.feed_passes.from_label.Goals as goal

pub take_all-last-requires : goal.take_all-last-requires
take_all-last-requires c =
    let a = c.args in
    let e = sym c.start.ensures.value ∙ c.in-Ok.is in
    record { sound = sound_good (start_good a.block.now c.in-Ok.run' e); short = c.requires.1; small = omega arith }

pub overflow_add-result : goal.overflow_add-result
overflow_add-result c =
    let a = c.args in
    let p = c.take_all-last.ensures.passed 1 in
    omega (arith, p.taken, taken_few 1 a.rest.now (kept c.in-Ok.run' a.block.now), c.requires.1)

pub returns-in-Ok : goal.returns-in-Ok
returns-in-Ok c = λ zeroth.
    let a = c.args in
    let b = a.block.now in
    let e = sym c.start.ensures.value ∙ c.in-Ok.is in
    passes_label (kept c.in-Ok.run' b) (label_goes (record { run = a.given; zeroth = zeroth }) b (whole_in a.rest.now) e) (c.take_all-last.ensures.passed 1) refl

pub returns-in-Err : goal.returns-in-Err
returns-in-Err c = λ zeroth.
    let a = c.args in
    let e = sym c.start.ensures.value ∙ c.in-Err.is in
    passes_no_label (record { run = a.given; zeroth = zeroth }) a.out.now (label_refused (record { run = a.given; zeroth = zeroth }) a.block.now (whole_in a.rest.now) e)
