use mathlib.Core.Path.{sym, ap, ◌∙◌}
use Rattle.sources.specs.Changes.{counted_by, counting_by}
use Rattle.sources.proofs.calls.count_held.Goals as goal

pub returns-in-Refused : goal.returns-in-Refused
unfolding counting_by
returns-in-Refused c =
    let a = c.args in
    c.not_counting.ensures ∙ sym (ap (counted_by a.seen a.ssrc) (sym c.count_block.ensures.value ∙ c.in-Refused.is))

pub returns-in-Counted : goal.returns-in-Counted
unfolding counting_by
returns-in-Counted c =
    let a = c.args in
    c.settled.ensures ∙ sym (ap (counted_by a.seen a.ssrc) (sym c.count_block.ensures.value ∙ c.in-Counted.is))
