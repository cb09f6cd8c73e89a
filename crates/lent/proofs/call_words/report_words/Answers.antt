use borrow.Author.Rules.{rules}
use mathlib.Core.Path.{sym, ap, ◌∙◌}
use mathlib.Core.List.{[], ◌∷◌}
use Prim.Native.Nat.{◌^◌}
use Rattle.numbers.specs.Integers.{modulo}
use Rattle.numbers.proofs.Signed.{seen_is}
use Rattle.lent.specs.CallWords.{loss_words}
use Rattle.lent.proofs.call_words.report_words.Goals as goal

pub returns-in-Fraction : goal.returns-in-Fraction
unfolding loss_words
returns-in-Fraction c = sym (ap (loss_words c.args.highest) c.in-Fraction.is)

pub returns-in-Counts : goal.returns-in-Counts
unfolding loss_words
returns-in-Counts c =
    let n = c.args.highest in
    let x = c.in-Counts.c in
    let lost = c.complement.ensures ∙ ap (modulo (2 ^ 64)) (seen_is x.lost (search rules)) in
    (λ i. 2 ∷ n ∷ 0 ∷ lost i ∷ x.marked ∷ x.expected ∷ []) ∙ sym (ap (loss_words n) c.in-Counts.is)
