use borrow.Author.Rules.{rules}
use mathlib.Core.Path.{◌≡◌, ◌∙◌, ap, subst⁻¹}
use lib.ListN.{length, length-take}
use native.Mathlib.Omega.{arith}
use Rattle.roots.specs.FullCondition.{full_condition}
use Rattle.answers.proofs.Conditions.{cond_ends, cond_goes}
use Rattle.breaker.specs.declared.intervals.Sums.{Sums}
use Rattle.breaker.specs.Condition.{condition}
use Rattle.breaker.specs.Rules.{holds}
use Rattle.breaker.specs.Private.{SumsOk}
use Rattle.breaker.proofs.Places.{length-mapped, sums_ok}
use Rattle.breaker.proofs.Facts.{k_low, k_high}
use Rattle.breaker.proofs.equations.exceeds.Goals.{After-summed-sums}
use Rattle.breaker.proofs.equations.exceeds.Goals as goal

-- the array has 32 places
long : (c : After-summed-sums) → length c.args.window.intervals ≡ 32
long c = search (rules, length-mapped)

-- the sums are those of k intervals in their limits
sums : (c : After-summed-sums) → SumsOk c.summed-sums.result
sums c =
    let s = c.args in
    let h = c.requires in
    subst⁻¹ SumsOk c.summed-sums.ensures
    (sums_ok s.settings.k s.window.intervals (k_low s.settings h.0) (k_high s.settings h.0) (long c) h.1)

pub summed-sums-requires : goal.summed-sums-requires
summed-sums-requires c =
    let s = c.args in
    let h = c.requires in
    (omega (arith, length-take s.settings.k s.window.intervals, k_high s.settings h.0), h.1)

pub shared_ref_as_front-summed : goal.shared_ref_as_front-summed
shared_ref_as_front-summed c = k_high c.args.settings c.requires.0

pub above_full-requires : goal.above_full-requires
above_full-requires c = (sums (goal.at.above_full-requires c).After-summed-sums, c.requires.2)

pub returns-then-settings : goal.returns-then-settings
unfolding holds
returns-then-settings c =
    let r = c.args.r in
    cond_ends _ _ _ _ c.if-settings.true
    (c.above_full.ensures ∙ ap (λ (q : Sums). full_condition r.rate r.rtt q.p r.size q.w) c.summed-sums.ensures)

pub above_simplified-requires : goal.above_simplified-requires
above_simplified-requires c = (sums (goal.at.above_simplified-requires c).After-summed-sums, c.requires.2)

pub returns-else-settings : goal.returns-else-settings
unfolding holds
returns-else-settings c =
    let r = c.args.r in
    cond_goes _ _ _ _ c.if-settings.false
    (c.above_simplified.ensures ∙ ap (λ (q : Sums). condition r.rate r.rtt q.p r.size q.w) c.summed-sums.ensures)
