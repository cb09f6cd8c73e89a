use Rattle.std.specs.Prelude.{Ok}
use borrow.Author.Rules.{rules}
use mathlib.Core.Path.{◌≡◌, refl, sym, ◌∙◌, ap}
use mathlib.Core.Bool.{Bool}
use Prim.Native.Nat.{◌^◌}
use borrow.Author.Tests.{le-leb, lt-leb}
use lib.Dec.{leb}
use Rattle.answers.proofs.Conditions.{cond_ends, cond_goes}
use Rattle.numbers.specs.Since.{since}
use Rattle.numbers.proofs.Signed.{seen_is}
use Rattle.between.specs.Differences.{expecting_of, between_as}
use mathlib.Core.Path.{ap}
use Rattle.between.proofs.Signals.expecting.Goals.{After-since32-expected}
use Rattle.between.proofs.Signals.expecting.Goals as goal

-- the test of the difference
back : (c : After-since32-expected) {t : Bool} → leb (2 ^ 31) c.since32-expected.result ≡ t → leb (2 ^ 31) (since 32 c.args.later c.args.earlier) ≡ t
back c e = sym (ap (leb (2 ^ 31)) c.since32-expected.ensures) ∙ e

pub returns-then-expected-ge-BACK-clause-value : goal.returns-then-expected-ge-BACK-clause-value
unfolding expecting_of
returns-then-expected-ge-BACK-clause-value c =
    cond_ends _ _ _ _ (back (goal.at.returns-then-expected-ge-BACK-clause-value c).After-since32-expected (le-leb _ _ c.if-expected-ge-BACK.true)) refl

pub returns-then-expected-ge-BACK-clause-numbered : goal.returns-then-expected-ge-BACK-clause-numbered
returns-then-expected-ge-BACK-clause-numbered c = ap between_as (returns-then-expected-ge-BACK-clause-value c)

pub returns-clause-value : goal.returns-clause-value
unfolding expecting_of
returns-clause-value c =
    let a = c.args in
    let lost = seen_is a.self.lost (search rules) in
    cond_goes _ _ _ _ (back (goal.at.returns-clause-value c).After-since32-expected (lt-leb _ _ c.if-expected-ge-BACK.false))
    (λ i. Ok (record { lost = lost i; marked = a.self.marked; expected = (c.from.ensures ∙ c.since32-expected.ensures) i }))

pub returns-clause-numbered : goal.returns-clause-numbered
returns-clause-numbered c = ap between_as (returns-clause-value c)
