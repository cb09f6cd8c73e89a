use borrow.Author.Rules.{rules}
use mathlib.Core.Path.{◌≡◌, refl, sym, ap, ap₂, ◌∙◌}
use mathlib.Core.List.{List}
use native.Mathlib.Omega.{arith}
use Prim.Native.Nat.{ℕ, ◌+◌, ◌*◌, ◌≤◌, ◌<◌}
use lib.ListN.{length, drop, get_or, set, drop_of_length-le}
use lib.Seq.{sets}
use Rattle.breaker.specs.declared.Interval.{Interval}
use Rattle.breaker.specs.Windows.{zero_interval}
use Rattle.lent.specs.BreakerWords.{interval_words}
use Rattle.lent.proofs.Pairs.{store_turn}
use Rattle.lent.proofs.breaker_words.store_intervals.Goals as goal

pub loop-i-init : goal.loop-i-init
loop-i-init c = (refl, omega arith, search rules, refl)

pub loop-i-preserved : goal.loop-i-preserved
loop-i-preserved c =
    let l = c.loop-i in
    let xs = c.args.xs in
    let h : l.i < length xs = omega arith in
    let at = 13 + 2 * l.i in
    let q : 13 + 2 * (l.i + 1) ≡ at + 2 = omega arith in
    let x = get_or xs l.i zero_interval in
    let stored = c.put-in-loop-i.ensures ∙ ap (λ (o : List ℕ). set o (at + 1) x.fraction) c.put.ensures in (
      c.put-in-loop-i.auto.words ∙ c.put.auto.words ∙ l.invariant.0,
      omega arith,
      l.invariant.2,
      ap₂ (λ (o : List ℕ) (n : ℕ). sets o n (interval_words (drop (l.i + 1) xs))) stored q ∙ store_turn xs l.i h l.words at ∙ l.invariant.3,
    )

pub shape_of-words : goal.shape_of-words
shape_of-words c = c.loop-i.invariant.0

pub returns : goal.returns
unfolding interval_words
returns c =
    let l = c.loop-i in
    let xs = c.args.xs in
    let h : length xs ≤ l.i = omega arith in
    sym (ap (λ (t : List Interval). sets l.words (13 + 2 * l.i) (interval_words t)) (drop_of_length-le xs h)) ∙ l.invariant.3
