use Rattle.std.proofs.Common.{◌≡◌, ◌-◌, refl, ◌∙◌, arith, length-set, rules}
use Rattle.trace.proofs.Layouts.{zeros_turn}
use Rattle.trace.proofs.parts.put_zeros.Goals as goal

pub loop-at-init : goal.loop-at-init
loop-at-init c = (search rules, refl, refl)

pub loop-at-preserved : goal.loop-at-preserved
loop-at-preserved c =
    let loop = c.loop-at in
    (omega arith, simp length-set loop.invariant.1, zeros_turn loop.out loop.at c.loop-at-test.true ∙ loop.invariant.2)

pub returns : goal.returns
returns c =
    let loop = c.loop-at in
    let none : 510 - loop.at ≡ 0 = omega arith in
    rw none at loop.invariant.2
