use borrow.Author.Rules.{rules}
use mathlib.Core.Path.{sym, ◌∙◌}
use Rattle.numbers.proofs.Signed.{seen_is}
use Rattle.lent.specs.RunWords.{run_words}
use Rattle.lent.proofs.RunLaws.{length_run}
use Rattle.capi.specs.Codes.{length_code}
use Rattle.capi.proofs.StepLaws.{words_stored, words_kept}
use Rattle.capi.proofs.runs.put_back.Goals as goal

pub returns-in-Ok : goal.returns-in-Ok
returns-in-Ok c =
    let next = run_words c.args.step.run in
    words_stored length_code c.args.run.now next c.args.step.answer (seen_is c.length.result (search rules) ∙ c.length.ensures) c.in-Ok.is
    (c.requires.0 ∙ sym (length_run c.args.step.run)) c.store.ensures

pub returns-in-Err : goal.returns-in-Err
returns-in-Err c =
    let a = c.args in
    words_kept length_code a.run.now (run_words a.step.run) a.step.answer (seen_is c.length-in-Err.result (search rules) ∙ c.length-in-Err.ensures)
    c.in-Err.is
