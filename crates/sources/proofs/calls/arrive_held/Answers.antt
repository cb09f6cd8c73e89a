use mathlib.Core.Path.{ap, ◌∙◌}
use borrow.Author.Tests.{lt-ltb, le-ltb}
use Rattle.answers.proofs.Conditions.{was_false, was_true}
use Rattle.source.specs.declared.Source.{Source}
use Rattle.source.specs.Arrivals.{after}
use Rattle.sources.specs.Answers.{told}
use Rattle.sources.specs.Changes.{change_of, arriving_by}
use Rattle.sources.proofs.calls.arrive_held.Goals as goal

pub returns-then-mark-gt3 : goal.returns-then-mark-gt3
unfolding arriving_by
returns-then-mark-gt3 c = rw (lt-ltb 3 _ c.if-mark-gt3.true) c.not_arriving.ensures

pub returns-then-not-has_room : goal.returns-then-not-has_room
unfolding arriving_by
returns-then-not-has_room c = rw (le-ltb 3 _ c.if-mark-gt3.false, was_false c.has_room.ensures c.if-not-has_room.true) c.not_arriving-then-not-has_room.ensures

pub returns : goal.returns
unfolding arriving_by
returns c =
    let a = c.args in
    let own = c.arrive_in_table-answer.ensures.value in
    rw (le-ltb 3 _ c.if-mark-gt3.false, was_true c.has_room.ensures c.if-not-has_room.false)
    (λ i. record {
      answer = (c.told-told.ensures ∙ ap told own) i;
      change =
          (c.change_of-change.ensures ∙ ap (λ (u : Source). change_of a.seen (record { ssrc = a.ssrc; source = u })) (c.after-source.ensures ∙ ap after own)) i;
    })
