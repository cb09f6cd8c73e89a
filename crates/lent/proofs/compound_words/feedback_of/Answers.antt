use Rattle.std.specs.Prelude.{Some}
use mathlib.Core.Path.{◌≡◌}
use mathlib.Core.Bool.{true}
use Prim.Native.Nat.{◌^◌}
use native.Mathlib.Omega.{arith}
use borrow.Author.Tests.{ltb-true}
use lib.Dec.{ltb}
use lib.ListN.{get_or}
use Rattle.answers.specs.Conditions.{all}
use Rattle.answers.proofs.Conditions.{all_true, and_right}
use Rattle.lent.specs.Widths.{counts_fit}
use Rattle.lent.specs.CompoundWords.{feedback_numbers, feedback_fits}
use Rattle.lent.proofs.FitLaws.{is_there, not_there, where_fits}
use Rattle.lent.proofs.compound_words.feedback_of.Goals.{After-word_at-highest}
use Rattle.lent.proofs.compound_words.feedback_of.Goals as goal

-- feedback that is there fits
fits : (c : After-word_at-highest) → all (feedback_numbers c.args.words.now) ≡ true
unfolding feedback_fits
fits c = where_fits (feedback_numbers c.args.words.now) c.word_at.ensures c.if-word_at-ne1.false c.requires

pub returns-then-word_at-ne1 : goal.returns-then-word_at-ne1
returns-then-word_at-ne1 c = rw (not_there c.word_at.ensures c.if-word_at-ne1.true)

pub counts_of-counts-requires : goal.counts_of-counts-requires
counts_of-counts-requires c = let ws = c.args.words.now in and_right (ltb (get_or ws 9 0) (2 ^ 32)) (all (counts_fit ws 12 14)) (fits (goal.at.counts_of-counts-requires c).After-word_at-highest)

pub overflow_cast-result : goal.overflow_cast-result
overflow_cast-result c =
    let ws = c.args.words.now in
    omega (arith, c.word_at-highest.ensures, ltb-true (get_or ws 9 0) (2 ^ 32) (all_true (feedback_numbers ws) 0 (fits (goal.at.overflow_cast-result c).After-word_at-highest)))

pub returns : goal.returns
returns c =
    rw (is_there c.word_at.ensures c.if-word_at-ne1.false)
    (λ i. Some (record { sender = 0; highest = c.word_at-highest.ensures i; counts = c.counts_of-counts.ensures i }))
