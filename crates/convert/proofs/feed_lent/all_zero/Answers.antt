use mathlib.Core.Path.{refl, ◌∙◌}
use Prim.Native.Nat.{ℕ}
use native.Mathlib.Omega.{arith}
use native.Mathlib.Nat.{zero-add}
use Rattle.trace.proofs.Tallies.{tally_turn, tally_rule}
use Rattle.trace.specs.Contents.{is_zero}
use Rattle.convert.proofs.feed_lent.all_zero.Goals as goal

pub loop-b-init : goal.loop-b-init
loop-b-init c = (omega arith, omega arith, zero-add _)

pub overflow_cast-sum : goal.overflow_cast-sum
overflow_cast-sum c = omega (arith, c.type_inv.s c.loop-b.b-index)

pub overflow_add-sum : goal.overflow_add-sum
overflow_add-sum c = omega (arith, c.type_inv.s c.loop-b.b-index)

pub loop-b-preserved : goal.loop-b-preserved
loop-b-preserved c =
    let loop = c.loop-b in
    let s = c.args.s.now in (
      omega arith,
      omega (arith, c.type_inv.s loop.b-index),
      tally_turn (λ (n : ℕ). n) s loop.b-index loop.sum c.loop-b-test.true ∙ loop.invariant.2,
    )

pub returns : goal.returns
returns c = tally_rule (λ (n : ℕ). n) is_zero (λ _. refl) _ _ _ c.loop-b.invariant.2 c.loop-b-test.false
