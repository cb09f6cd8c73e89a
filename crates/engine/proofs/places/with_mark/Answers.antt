use borrow.Author.Rules.{rules}
use mathlib.Core.Path.{◌∙◌}
use lib.Bits.{bit_or}
use Rattle.engine.proofs.Spots.{marked_words}
use Rattle.engine.proofs.places.with_mark.Goals as goal

pub returns : goal.returns
returns c =
    let a = c.args in
    (λ i. record { recent = bit_or a.h.recent (c.chosen.ensures i); older = bit_or a.h.older (c.chosen-2.ensures i) })
    ∙ marked_words a.h (search rules) (search rules) a.k c.requires.0
