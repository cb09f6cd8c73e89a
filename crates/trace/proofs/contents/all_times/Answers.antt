use Rattle.std.proofs.Common.{ℕ, ◌+◌, ◌≤◌, ltb, get_or, drop, ap, ◌∙◌, zero-add, arith}
use Rattle.trace.proofs.Tallies.{tally, tally_turn, tally_rule, rule_fault, rule_small, beyond_of}
use Rattle.trace.specs.Contents.{every}
use Rattle.trace.proofs.contents.all_times.Goals.{After-beyond-sum}
use Rattle.trace.proofs.contents.all_times.Goals as goal

pub loop-i-init : goal.loop-i-init
loop-i-init c = (omega arith, omega arith, zero-add _)

small : (c : After-beyond-sum) → c.beyond-sum.result ≤ 1
small c = rw c.beyond-sum.ensures (rule_small (ltb (get_or c.args.times.now c.loop-i.i 0) c.time_limit-limit.result))

pub overflow_add-sum : goal.overflow_add-sum
overflow_add-sum c = omega (arith, small (goal.at.overflow_add-sum c).After-beyond-sum)

pub loop-i-preserved : goal.loop-i-preserved
loop-i-preserved c =
    let loop = c.loop-i in
    let limit = c.time_limit-limit.result in
    let s = c.args.times.now in (
      omega arith,
      omega (arith, small (goal.at.loop-i-preserved c).After-beyond-sum),
      ap (λ (n : ℕ). loop.sum + n + tally (beyond_of limit) (drop (loop.i + 1) s)) c.beyond-sum.ensures
          ∙ tally_turn (beyond_of limit) s loop.i loop.sum c.loop-i-test.true ∙ loop.invariant.2,
    )

pub returns : goal.returns
returns c =
    let limit = c.time_limit-limit.result in
    let times = c.args.times.now in
    tally_rule (beyond_of limit) (λ (n : ℕ). ltb n limit) (λ n. rule_fault (ltb n limit)) times c.loop-i.i c.loop-i.sum c.loop-i.invariant.2 c.loop-i-test.false
    ∙ ap (λ (most : ℕ). every (λ (n : ℕ). ltb n most) times) c.time_limit-limit.ensures
