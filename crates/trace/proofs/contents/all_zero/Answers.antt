use Rattle.std.proofs.Common.{ℕ, refl, ◌∙◌, zero-add, arith}
use Rattle.trace.proofs.Tallies.{tally_turn, tally_rule}
use Rattle.trace.specs.Contents.{is_zero}
use Rattle.trace.proofs.contents.all_zero.Goals as goal

pub loop-i-init : goal.loop-i-init
loop-i-init c = (omega arith, omega arith, zero-add _)

pub overflow_cast-sum : goal.overflow_cast-sum
overflow_cast-sum c = omega (arith, c.type_inv.s c.loop-i.i)

pub overflow_add-sum : goal.overflow_add-sum
overflow_add-sum c = omega (arith, c.type_inv.s c.loop-i.i)

pub loop-i-preserved : goal.loop-i-preserved
loop-i-preserved c =
    let loop = c.loop-i in
    let s = c.args.s.now in (
      omega arith,
      omega (arith, c.type_inv.s loop.i),
      tally_turn (λ (n : ℕ). n) s loop.i loop.sum c.loop-i-test.true ∙ loop.invariant.2,
    )

pub returns : goal.returns
returns c = tally_rule (λ (n : ℕ). n) is_zero (λ _. refl) _ _ _ c.loop-i.invariant.2 c.loop-i-test.false
