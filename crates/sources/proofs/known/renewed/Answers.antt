use Rattle.std.specs.Prelude.{Ok}
use mathlib.Core.Path.{sym, ap, ◌∙◌}
use Prim.Native.Nat.{ℕ}
use Rattle.answers.proofs.Conditions.{was_true}
use Rattle.trace.specs.declared.Block.TheVariants.{Arrivals}
use Rattle.sources.proofs.RunSteps.{of_trace, renews}
use Rattle.sources.proofs.known.renewed.Goals as goal

pub counted-requires : goal.counted-requires
counted-requires c =
    let a = c.args in
    sym c.read_block.ensures.value ∙ c.in-Ok-Arrivals.is ∙ ap Ok c.in-Ok-Arrivals.field-0-is ∙ of_trace a.form _ _ _ (was_true c.is_of_trace.ensures c.if-not-is_of_trace.false)
    ∙ ap (λ (s : ℕ). Ok (Arrivals a.form c.in-Ok-Arrivals.count s)) c.if-ssrc-p.false

pub returns : goal.returns
returns c =
    let a = c.args in
    renews a.form a.p a.t c.in-Ok-Arrivals.count a.block.now c.counted.result
    (sym c.read_block.ensures.value ∙ c.in-Ok-Arrivals.is ∙ ap Ok c.in-Ok-Arrivals.field-0-is ∙ of_trace a.form _ _ _ (was_true c.is_of_trace.ensures c.if-not-is_of_trace.false)
    ∙ ap (λ (s : ℕ). Ok (Arrivals a.form c.in-Ok-Arrivals.count s)) c.if-ssrc-p.false)
    (was_true c.is_held.ensures c.if-not-is_held.false) c.counted.ensures
