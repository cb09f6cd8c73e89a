use borrow.Author.Rules.{rules}
use mathlib.Core.Path.{◌≡◌, refl, sym, ◌∙◌, ap}
use Prim.Native.Nat.{ℕ, ◌+◌}
use native.Mathlib.Omega.{arith}
use borrow.Author.Tests.{eq-eqb}
use Rattle.answers.proofs.Conditions.{cond_ends}
use Rattle.numbers.proofs.Signed.{seen_is}
use Rattle.breaker.specs.FractionLost.{at_least_zero, counts_fraction}
use Rattle.breaker.proofs.FractionLost.{lost_high, marked_high, expected_high, share, share_of_all, share_of_part}
use Rattle.breaker.proofs.losses.of_counts.Goals.{After-at_least_zero}
use Rattle.breaker.proofs.losses.of_counts.Goals as goal

-- the packets lost, as the program has them
lost : (c : After-at_least_zero) → c.at_least_zero.result ≡ at_least_zero c.args.c.lost
lost c = c.at_least_zero.ensures ∙ ap at_least_zero (seen_is c.args.c.lost (search rules))

-- the answer may be shown with them
shown : (c : After-at_least_zero) {z : ℕ}
    → z ≡ share (c.at_least_zero.result + c.args.c.marked) c.args.c.expected
    → z ≡ counts_fraction c.args.c
unfolding counts_fraction
shown c e = let a = c.args.c in e ∙ ap (λ (n : ℕ). share (n + a.marked) a.expected) (lost c)

pub returns-then-c-eq0 : goal.returns-then-c-eq0
unfolding counts_fraction
returns-then-c-eq0 c = cond_ends _ _ _ _ (eq-eqb _ _ c.if-c-eq0.true) refl

pub overflow_add-congested : goal.overflow_add-congested
overflow_add-congested c =
    omega (arith, lost (goal.at.overflow_add-congested c).After-at_least_zero, lost_high c.args.c c.requires, marked_high c.args.c c.requires)

pub returns-then-c-congested : goal.returns-then-c-congested
returns-then-c-congested c =
    let a = c.args.c in
    let n = c.at_least_zero.result + a.marked in
    shown (goal.at.returns-then-c-congested c).After-at_least_zero (sym (share_of_all n a.expected (omega arith) (omega arith)))

pub in_256ths-requires : goal.in_256ths-requires
in_256ths-requires c = (omega arith, expected_high c.args.c c.requires)

pub returns : goal.returns
returns c =
    let a = c.args.c in
    let n = c.at_least_zero.result + a.marked in
    shown (goal.at.returns c).After-at_least_zero (c.in_256ths.ensures ∙ sym (share_of_part n a.expected (omega arith)))
