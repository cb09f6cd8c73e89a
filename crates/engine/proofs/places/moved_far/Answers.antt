use borrow.Author.Rules.{rules}
use native.Mathlib.Omega.{arith}
use Rattle.source.proofs.Shifts.{moved_far, moved_out}
use Rattle.engine.proofs.places.moved_far.Goals as goal

pub returns-then-d-lt100 : goal.returns-then-d-lt100
returns-then-d-lt100 c =
    let a = c.args in moved_far a.h (search rules) (search rules) a.d c.requires.0 (omega (arith, c.if-d-lt100.true))

pub returns : goal.returns
returns c = let a = c.args in moved_out a.h (search rules) (search rules) a.d (omega (arith, c.if-d-lt100.false))
