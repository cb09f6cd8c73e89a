use mathlib.Core.Path.{sym, ap, ◌∙◌}
use Rattle.std.proofs.lemmas.Result.{err_from_is_err_and}
use Rattle.answers.proofs.Stores.{wrote_refused, wrote_same}
use Rattle.report.specs.declared.carried.Carried.{Carried}
use Rattle.report.specs.Reports.{feedback_of, feedback_bytes}
use Rattle.report.proofs.Faults.{carried_fault, carried_fits, carried_is}
use Rattle.report.proofs.write_feedback.Goals as goal

pub returns-in_err-carried : goal.returns-in_err-carried
returns-in_err-carried c =
    let a = c.args in
    let p = err_from_is_err_and c.from_residual.result c.from_residual.ensures.1 in
    rw (p.1, p.2) (wrote_refused (feedback_bytes a.sender a.media a.s) a.out.now (carried_fault a.s (sym c.of.ensures ∙ c.in_err-carried.was)))

pub returns : goal.returns
returns c =
    let a = c.args in
    let is = sym c.of.ensures ∙ c.in_ok-carried.was in
    let same = ap (λ (k : Carried). feedback_of a.sender a.media k.highest k.counts) (carried_is a.s is) in
    wrote_same (sym (carried_fits a.s is)) same c.feedback.ensures
