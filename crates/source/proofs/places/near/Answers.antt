use borrow.Author.Rules.{rules}
use Rattle.source.proofs.Shifts.{one_shl, near_words}
use Rattle.source.proofs.places.near.Goals as goal

pub returns : goal.returns
returns c = let a = c.args in rw (one_shl a.k (search rules)) (near_words a.h (search rules) (search rules) a.up a.k (search rules) (search rules))
