use Rattle.std.specs.Prelude.{Ok, Err}
use Rattle.answers.specs.declared.Unwritten.{Unwritten}
use mathlib.Core.Path.{sym, ◌∙◌}
use Rattle.sources.proofs.RunSteps.{start_is}
use Rattle.sources.proofs.runs.Run.start.Goals as goal

pub returns-in-Ok : goal.returns-in-Ok
returns-in-Ok c =
    c.taken.ensures ∙ (λ i. record { answer = Ok 0; run = c.empty.ensures i }) ∙ sym (start_is c.args.zeroth.now (sym c.read_label.ensures.value ∙ c.in-Ok.is))

pub returns-in-Err : goal.returns-in-Err
returns-in-Err c =
    c.refused.ensures ∙ (λ i. record { answer = Err (Unwritten.Refused c.in-Err.refusal); run = c.empty-in-Err.ensures i })
    ∙ sym (start_is c.args.zeroth.now (sym c.read_label.ensures.value ∙ c.in-Err.is))
