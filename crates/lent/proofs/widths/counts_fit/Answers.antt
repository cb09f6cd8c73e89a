use mathlib.Core.Path.{sym, ◌∙◌}
use mathlib.Core.Bool.{and-true}
use Rattle.answers.proofs.Conditions.{all_false, and_goes, was_true, was_false}
use Rattle.lent.specs.Widths.{counts_fit}
use Rattle.lent.proofs.widths.counts_fit.Goals as goal

pub returns-then-not-is_below : goal.returns-then-not-is_below
returns-then-not-is_below c =
    let a = c.args in
    all_false (counts_fit a.words.now a.ce a.lost) 0 (was_false c.is_below.ensures c.if-not-is_below.true)

pub returns : goal.returns
returns c = and_goes _ _ _ (was_true c.is_below.ensures c.if-not-is_below.false) (c.is_below-2.ensures ∙ sym (and-true _))
