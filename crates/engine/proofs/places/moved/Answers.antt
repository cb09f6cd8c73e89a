use borrow.Author.Rules.{rules}
use Rattle.engine.proofs.Spots.{moved_words}
use Rattle.engine.proofs.places.moved.Goals as goal

pub returns : goal.returns
returns c =
    let a = c.args in moved_words a.h (search rules) (search rules) a.up (search rules)
