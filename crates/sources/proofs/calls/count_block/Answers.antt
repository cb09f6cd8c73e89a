use Rattle.std.specs.Prelude.{Option}
use mathlib.Core.Path.{sym, ap, ◌∙◌}
use Rattle.answers.specs.declared.Refusal.{Refusal}
use Rattle.sources.specs.Seeing.{fault_seen}
use Rattle.sources.specs.Changes.{counting_by}
use Rattle.sources.proofs.Checking.{by_refused, by_held}
use Rattle.sources.proofs.calls.count_block.Goals as goal

pub returns-in-Err : goal.returns-in-Err
unfolding counting_by
returns-in-Err c =
    let a = c.args in
    c.not_counting.ensures
    ∙ sym (ap (λ (f : Option Refusal). counting_by f a.seen a.ssrc a.width a.records.now)
    (by_refused (fault_seen a.seen) a.seen.held (sym c.in-Err.is ∙ c.judged.ensures)))

pub returns-in-Ok : goal.returns-in-Ok
returns-in-Ok c =
    let a = c.args in
    c.count_held.ensures
    ∙ sym (ap (λ (f : Option Refusal). counting_by f a.seen a.ssrc a.width a.records.now)
    (by_held (fault_seen a.seen) a.seen.held (sym c.in-Ok.is ∙ c.judged.ensures)))
