use Rattle.std.proofs.Common.{ℕ, ◌+◌, ◌≤◌, drop, sym, ap, ◌∙◌, zero-add, arith}
use Rattle.trace.specs.Retired.{retired}
use Rattle.trace.proofs.Tallies.{tally, tally_turn, tally_done}
use Rattle.trace.proofs.Spacing.{retired_of, retired_small, retired_tally}
use Rattle.trace.proofs.label.retired_in.Goals.{After-is_retired-number}
use Rattle.trace.proofs.label.retired_in.Goals as goal

pub loop-i-init : goal.loop-i-init
loop-i-init c = (omega arith, omega arith, zero-add _)

small : (c : After-is_retired-number) → c.is_retired-number.result ≤ 1
small c = rw c.is_retired-number.ensures (retired_small (retired _))

pub overflow_add-number : goal.overflow_add-number
overflow_add-number c = omega (arith, small (goal.at.overflow_add-number c).After-is_retired-number)

pub loop-i-preserved : goal.loop-i-preserved
loop-i-preserved c =
    let loop = c.loop-i in
    let s = c.args.label.now in (
      omega arith,
      omega (arith, small (goal.at.loop-i-preserved c).After-is_retired-number),
      ap (λ (n : ℕ). loop.number + n + tally retired_of (drop (loop.i + 1) s)) c.is_retired-number.ensures
          ∙ tally_turn retired_of s loop.i loop.number c.loop-i-test.true ∙ loop.invariant.2,
    )

pub returns : goal.returns
returns c =
    let loop = c.loop-i in
    let s = c.args.label.now in
    sym (tally_done retired_of s loop.i loop.number c.loop-i-test.false) ∙ loop.invariant.2 ∙ retired_tally s
