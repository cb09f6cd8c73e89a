use Rattle.std.specs.Prelude.{Some}
use mathlib.Core.Path.{◌≡◌}
use mathlib.Core.Bool.{true}
use Prim.Native.Nat.{◌^◌}
use native.Mathlib.Omega.{arith}
use borrow.Author.Tests.{ltb-true}
use lib.IntN.{pos}
use lib.ListN.{get_or}
use Rattle.answers.specs.Conditions.{all}
use Rattle.answers.proofs.Conditions.{all_true}
use Rattle.lent.specs.CompoundWords.{report_numbers, report_fits}
use Rattle.lent.proofs.FitLaws.{is_there, not_there, where_fits}
use Rattle.lent.proofs.compound_words.report_of.Goals.{After-word_at-highest}
use Rattle.lent.proofs.compound_words.report_of.Goals as goal

-- a block that is there fits
fits : (c : After-word_at-highest) → all (report_numbers c.args.words.now) ≡ true
unfolding report_fits
fits c = where_fits (report_numbers c.args.words.now) c.word_at.ensures c.if-word_at-ne1.false c.requires

pub returns-then-word_at-ne1 : goal.returns-then-word_at-ne1
returns-then-word_at-ne1 c = rw (not_there c.word_at.ensures c.if-word_at-ne1.true)

pub overflow_cast-result : goal.overflow_cast-result
overflow_cast-result c =
    let ws = c.args.words.now in
    omega (arith, c.word_at-fraction.ensures, ltb-true (get_or ws 1 0) (2 ^ 8) (all_true (report_numbers ws) 0 (fits (goal.at.overflow_cast-result c).After-word_at-highest)))

pub overflow_cast-result-2 : goal.overflow_cast-result-2
overflow_cast-result-2 c =
    let ws = c.args.words.now in
    omega (arith, c.word_at-highest.ensures, ltb-true (get_or ws 3 0) (2 ^ 32) (all_true (report_numbers ws) 1 (fits (goal.at.overflow_cast-result-2 c).After-word_at-highest)))

pub returns : goal.returns
returns c =
    rw (is_there c.word_at.ensures c.if-word_at-ne1.false)
    (λ i. Some (record { fraction = c.word_at-fraction.ensures i; lost = pos 0; highest = c.word_at-highest.ensures i; jitter = 0; lsr = 0; dlsr = 0; reporter = 0 }))
