use borrow.Author.Rules.{rules}
use Rattle.source.proofs.Shifts.{moved_far, moved_out}
use Rattle.source.proofs.places.moved_on.Goals as goal

pub returns-then-d-lt100 : goal.returns-then-d-lt100
returns-then-d-lt100 c =
    let a = c.args in
    moved_far a.h (search rules) (search rules) a.d (search rules) (search rules)

pub returns : goal.returns
returns c =
    let a = c.args in
    moved_out a.h (search rules) (search rules) a.d (search rules)
