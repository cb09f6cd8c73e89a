use Rattle.std.specs.Prelude.{Result, Some}
use Rattle.answers.specs.declared.Refusal.{Refusal}
use mathlib.Core.Path.{sym, ap, ◌∙◌}
use Rattle.trace.specs.declared.Zeroth.{Zeroth}
use Rattle.labels.specs.declared.Progress.{Progress}
use Rattle.labels.specs.Pieces.{started_by}
use Rattle.labels.proofs.started.Goals as goal

pub returns-in-Ok : goal.returns-in-Ok
returns-in-Ok c =
    let a = c.args in
    sym (ap (λ (z : Result Zeroth Refusal). started_by z a.replaced) (sym c.read_label.ensures.value ∙ c.in-Ok.is))

pub returns-in-Err : goal.returns-in-Err
returns-in-Err c =
    let a = c.args in
    ap (λ (p : Progress). record { form = p.form; ssrc = p.ssrc; replaced = p.replaced; block = p.block; ended = Some c.in-Err.refusal }) c.not_begun.ensures
    ∙ sym (ap (λ (z : Result Zeroth Refusal). started_by z a.replaced) (sym c.read_label.ensures.value ∙ c.in-Err.is))
