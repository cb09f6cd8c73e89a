use borrow.Author.Rules.{rules}
use mathlib.Core.Path.{◌≡◌, refl, sym, ap, ◌∙◌}
use mathlib.Core.List.{[], ◌++◌, append-nil}
use native.Mathlib.Omega.{arith}
use Prim.Native.Nat.{ℕ, ◌+◌, ◌-◌, ◌*◌, ◌<◌}
use lib.ListN.{length, drop, take, set, length-set}
use lib.Seq.{take_all}
use Rattle.lent.specs.BreakerWords.{intervals_of}
use Rattle.lent.proofs.Pairs.{load_turn}
use Rattle.lent.proofs.breaker_words.intervals_in.Goals as goal

pub loop-i-init : goal.loop-i-init
loop-i-init c = (omega arith, search rules, refl)

pub loop-i-preserved : goal.loop-i-preserved
loop-i-preserved c =
    let l = c.loop-i in
    let ws = c.args.words.now in
    let at = 13 + 2 * l.i in
    let q : 13 + 2 * (l.i + 1) ≡ at + 2 = omega arith in
    let h : l.i < length l.next = omega arith in
    let first = c.word_at.ensures in
    let second = c.word_at-in-loop-i.ensures in (
      omega arith,
      length-set l.next l.i _ ∙ l.invariant.1,
      (λ j. take (l.i + 1) (set l.next l.i (record { length = first j; fraction = second j })) ++ intervals_of (32 - (l.i + 1)) (drop (q j) ws))
          ∙ load_turn 32 l.i l.next ws at c.loop-i-test.true h ∙ l.invariant.2,
    )

pub returns : goal.returns
unfolding intervals_of
returns c =
    let l = c.loop-i in
    let ws = c.args.words.now in
    let e : l.i ≡ 32 = omega arith in
    let all : l.next ≡ take 32 l.next ++ [] = sym (append-nil (take 32 l.next) ∙ take_all 32 l.next (omega arith)) in
    all ∙ sym (ap (λ (n : ℕ). take n l.next ++ intervals_of (32 - n) (drop (13 + 2 * n) ws)) e) ∙ l.invariant.2
