use Rattle.std.specs.Prelude.{◌≡◌, Result, Ok}
use mathlib.Core.Path.{sym, ap, subst, ◌∙◌}
use Rattle.answers.specs.declared.Refusal.{Refusal}
use Rattle.answers.proofs.Conditions.{was_true, was_false}
use Rattle.trace.specs.declared.Block.{Block}
use Rattle.trace.specs.Reading.{block_of, fault_of}
use Rattle.walk.specs.Steps.{Next, refuses}
use Rattle.sources.specs.declared.runs.Run.{Run}
use Rattle.sources.specs.Runs.{next_of, TakesBlock}
use Rattle.sources.proofs.RunSteps.{next_by_block, next_other, next_foreign, next_goes, of_trace, takes_refuses}
use Rattle.sources.proofs.stepping.step.Goals.{Then-not-is_of_trace, in_default-via-in-Ok+in-Label-1, in_default-via-in-Err-1}
use Rattle.sources.proofs.stepping.step.Goals as goal

pub returns-then-not-is_of_trace : goal.returns-then-not-is_of_trace
returns-then-not-is_of_trace c =
    let a = c.args in
    let b = a.block.now in
    subst (TakesBlock a.run (next_of a.run b)) (sym c.refused.ensures)
    (takes_refuses a.run
    (next_foreign a.run b (sym c.read_block.ensures.value ∙ c.in-Ok-Arrivals.is ∙ ap Ok c.in-Ok-Arrivals.field-0-is) (was_false c.is_of_trace.ensures c.if-not-is_of_trace.true)))

pub count_in-requires : goal.count_in-requires
count_in-requires c =
    let a = c.args in
    sym c.read_block.ensures.value ∙ c.in-Ok-Arrivals.is ∙ ap Ok c.in-Ok-Arrivals.field-0-is ∙ of_trace a.run.form _ _ _ (was_true c.is_of_trace.ensures c.if-not-is_of_trace.false)

pub returns-else-not-is_of_trace : goal.returns-else-not-is_of_trace
returns-else-not-is_of_trace c =
    let a = c.args in
    let b = a.block.now in
    subst (λ n. TakesBlock a.run n c.count_in.result)
    (sym (next_goes a.run b (sym c.read_block.ensures.value ∙ c.in-Ok-Arrivals.is ∙ ap Ok c.in-Ok-Arrivals.field-0-is) (was_true c.is_of_trace.ensures c.if-not-is_of_trace.false)))
    c.count_in.ensures

abbrev refused : Result Block Refusal → Next Run
refused r = refuses (fault_of r)

pub returns-in_default : goal.returns-in_default
returns-in_default c =
    let a = c.args in
    let b = a.block.now in
    let read = c.read_block in
    let next : next_of a.run b ≡ refuses (fault_of c.in_default-1.other) = elim c.in_default-1.branch [
      | in_default-via-in-Ok+in-Label-1 w ↦
          next_by_block a.run b (sym read.ensures.value ∙ w.t7-1.given.1) ∙ next_other a.run b w.t7-1.given.0.0 w.in-Label-1.keys2 ∙ sym (ap refused w.other-is)
      | in_default-via-in-Err-1 w ↦
          next_by_block a.run b (sym read.ensures.value ∙ w.enum_told_at-1.given.1) ∙ sym (ap refused (w.other-is ∙ w.enum_told_at-1.given.1))
    ] in
    subst (TakesBlock a.run (next_of a.run b)) (sym c.refused-in_default.ensures) (takes_refuses a.run (next ∙ ap refuses (sym c.fault_of.ensures)))
