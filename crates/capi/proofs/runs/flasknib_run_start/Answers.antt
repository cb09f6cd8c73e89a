use mathlib.Core.Path.{sym, ap, ◌∙◌}
use Rattle.lent.specs.RunWords.{run_words}
use Rattle.lent.proofs.RunLaws.{length_run}
use Rattle.capi.specs.RunCalls.{start_code, start_words}
use Rattle.capi.proofs.Fronts.{sets-whole}
use Rattle.capi.proofs.RunSteps.{starts_other, starts_begun}
use Rattle.capi.proofs.runs.flasknib_run_start.Goals as goal

pub returns-then-run-ne-WORDS : goal.returns-then-run-ne-WORDS
returns-then-run-ne-WORDS c =
    let a = c.args in
    starts_other a.zeroth.now a.run.now c.if-run-ne-WORDS.true c.number.ensures

pub returns-in-Ok : goal.returns-in-Ok
returns-in-Ok c =
    let a = c.args in
    let told = c.in-Ok.is in
    let sized = c.if-run-ne-WORDS.false in
    let whole = sets-whole a.run.now (run_words c.in-Ok.first) (sized ∙ sym (length_run c.in-Ok.first)) in
    starts_begun a.zeroth.now a.run.now sized c.start.ensures.value
    (sym (ap start_code told)) (c.store.ensures ∙ whole ∙ sym (ap (start_words a.run.now) told))

pub returns-in-Err : goal.returns-in-Err
returns-in-Err c =
    let a = c.args in
    let told = c.in-Err.is in
    starts_begun a.zeroth.now a.run.now c.if-run-ne-WORDS.false c.start.ensures.value
    (c.number-in-Err.ensures ∙ sym (ap start_code told)) (sym (ap (start_words a.run.now) told))
