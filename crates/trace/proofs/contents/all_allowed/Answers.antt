use Rattle.std.proofs.Common.{ℕ, ◌+◌, ◌≤◌, drop, ap, ◌∙◌, zero-add, arith}
use Rattle.trace.proofs.Tallies.{tally, tally_turn, tally_rule, rule_fault, rule_small, outside_of}
use Rattle.trace.specs.Contents.{label_byte}
use Rattle.trace.proofs.contents.all_allowed.Goals.{After-outside-sum}
use Rattle.trace.proofs.contents.all_allowed.Goals as goal

pub loop-i-init : goal.loop-i-init
loop-i-init c = (omega arith, omega arith, zero-add _)

small : (c : After-outside-sum) → c.outside-sum.result ≤ 1
small c = rw c.outside-sum.ensures (rule_small (label_byte _))

pub overflow_add-sum : goal.overflow_add-sum
overflow_add-sum c = omega (arith, small (goal.at.overflow_add-sum c).After-outside-sum)

pub loop-i-preserved : goal.loop-i-preserved
loop-i-preserved c =
    let loop = c.loop-i in
    let s = c.args.s.now in (
      omega arith,
      omega (arith, small (goal.at.loop-i-preserved c).After-outside-sum),
      ap (λ (n : ℕ). loop.sum + n + tally outside_of (drop (loop.i + 1) s)) c.outside-sum.ensures
          ∙ tally_turn outside_of s loop.i loop.sum c.loop-i-test.true ∙ loop.invariant.2,
    )

pub returns : goal.returns
returns c = tally_rule outside_of label_byte (λ n. rule_fault (label_byte n)) _ _ _ c.loop-i.invariant.2 c.loop-i-test.false
