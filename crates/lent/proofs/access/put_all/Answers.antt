use mathlib.Core.Path.{refl, ap, ◌∙◌}
use native.Mathlib.Nat.{add-zero}
use native.Mathlib.Omega.{arith}
use Prim.Native.Nat.{ℕ, ◌+◌}
use lib.Seq.{sets}
use Rattle.answers.proofs.Stores.{sets-done}
use Rattle.lent.proofs.Pairs.{put_turn}
use Rattle.lent.proofs.access.put_all.Goals as goal

pub loop-i-init : goal.loop-i-init
loop-i-init c = (refl, omega arith, ap (λ (n : ℕ). sets c.args.words.now n c.args.new.now) (add-zero c.args.at))

pub bounds-new-i : goal.bounds-new-i
bounds-new-i c = omega arith

pub overflow_add-at : goal.overflow_add-at
overflow_add-at c = omega arith

pub overflow_add-i : goal.overflow_add-i
overflow_add-i c = omega arith

pub loop-i-smaller : goal.loop-i-smaller
loop-i-smaller c = omega arith

pub loop-i-preserved : goal.loop-i-preserved
loop-i-preserved c =
    let l = c.loop-i in
    let a = c.args in
    (c.put.auto.words ∙ l.invariant.0, omega arith, put_turn a.at l.i a.new.now l.words c.loop-i-test.true c.put.ensures ∙ l.invariant.2)

pub shape_of-words : goal.shape_of-words
shape_of-words c = c.loop-i.invariant.0

pub returns : goal.returns
returns c =
    let l = c.loop-i in
    let a = c.args in
    sets-done l.words (a.at + l.i) a.new.now l.i c.loop-i-test.false ∙ l.invariant.2
