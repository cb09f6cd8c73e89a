use borrow.Author.Rules.{rules}
use mathlib.Core.Path.{refl, ap, ◌∙◌}
use Prim.Native.Nat.{ℕ, ◌+◌}
use native.Mathlib.Omega.{arith}
use native.Mathlib.Nat.{add_assoc, add-zero}
use lib.ListN.{length-set}
use lib.Seq.{sets}
use Rattle.answers.proofs.Stores.{sets-turn, sets-cut, from_end}
use Rattle.answers.proofs.copy.put_bytes.Goals as goal

pub loop-i-init : goal.loop-i-init
loop-i-init c = (c.min-from.ensures, c.min-n.ensures, omega arith, refl, rw add-zero)

pub loop-i-preserved : goal.loop-i-preserved
loop-i-preserved c =
    let loop = c.loop-i in
    let a = c.args in
    let at = c.min-from.result + loop.i in (
      loop.invariant.0,
      loop.invariant.1,
      omega arith,
      simp length-set loop.invariant.3,
      rw (← add_assoc c.min-from.result loop.i 1, sets-turn loop.out at a.s.now loop.i (omega arith)) loop.invariant.4,
    )

pub returns : goal.returns
returns c =
    let a = c.args in
    let loop = c.loop-i in
    let from = c.min-from.result in
    sets-cut loop.out from a.s.now loop.i (omega arith) ∙ loop.invariant.4 ∙ ap (λ (n : ℕ). sets a.out.now n a.s.now) loop.invariant.0 ∙ from_end a.out.now a.s.now a.at
