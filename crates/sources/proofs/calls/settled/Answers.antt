use Rattle.answers.proofs.Conditions.{was_false, was_true}
use Rattle.sources.specs.declared.Counted.TheVariants.{Block}
use Rattle.sources.specs.Changes.{settled}
use Rattle.sources.proofs.calls.settled.Goals as goal

pub returns-then-not-has_room : goal.returns-then-not-has_room
unfolding settled
returns-then-not-has_room c = rw (was_false c.has_room.ensures c.if-not-has_room.true) c.not_counting.ensures

pub returns : goal.returns
unfolding settled
returns c =
    let a = c.args in
    rw (was_true c.has_room.ensures c.if-not-has_room.false)
    (λ i. record { answer = Block a.seen.stand a.jumps a.restarts; change = c.change_of-change.ensures i })
