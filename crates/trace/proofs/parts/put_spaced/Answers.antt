use Rattle.std.proofs.Common.{◌+◌, refl, ◌∙◌, add-zero, add_assoc, arith, length-set}
use Rattle.trace.proofs.Spacing.{spaced_turn, spaced_done}
use Rattle.trace.proofs.parts.put_spaced.Goals as goal

pub loop-i-init : goal.loop-i-init
loop-i-init c = (omega arith, refl, rw add-zero)

pub loop-i-preserved : goal.loop-i-preserved
loop-i-preserved c =
    let loop = c.loop-i in
    let a = c.args in
    let s = a.label.now in (
      omega arith,
      simp length-set loop.invariant.1,
      rw (← add_assoc a.at loop.i 1, c.spaced_byte.ensures, spaced_turn loop.out (a.at + loop.i) s loop.i c.loop-i-test.true) loop.invariant.2,
    )

pub returns : goal.returns
returns c =
    let loop = c.loop-i in
    let a = c.args in
    spaced_done loop.out (a.at + loop.i) a.label.now loop.i c.loop-i-test.false ∙ loop.invariant.2
