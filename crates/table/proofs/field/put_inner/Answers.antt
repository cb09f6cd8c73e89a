use mathlib.Core.Path.{refl, ap, ◌∙◌}
use Prim.Native.Nat.{◌+◌}
use native.Mathlib.Omega.{arith}
use lib.ListN.{length, drop, get_or}
use Rattle.table.proofs.Texts.{length-turn, doubled_turn, doubled_done}
use Rattle.table.specs.Field.{doubled, doubled_byte}
use Rattle.answers.proofs.Stores.{sets-step}
use Rattle.table.proofs.field.put_inner.Goals as goal

pub loop-c-init : goal.loop-c-init
loop-c-init c = (refl, refl, refl)

pub put_byte-place-requires : goal.put_byte-place-requires
put_byte-place-requires c =
    omega (arith, length-turn c.args.s.now c.loop-c.c-index c.loop-c-test.true)

pub loop-c-preserved : goal.loop-c-preserved
loop-c-preserved c =
    let loop = c.loop-c in
    let s = c.args.s.now in
    let put = c.put_byte-place in
    let turn = c.loop-c-test.true in (
      omega (arith, length-turn s loop.c-index turn),
      put.auto.out ∙ loop.invariant.1,
      sets-step _ _ (doubled_byte (get_or s loop.c-index 0)) (doubled (drop (loop.c-index + 1) s)) (doubled_turn s loop.c-index turn) put.ensures.written put.ensures.value ∙ loop.invariant.2,
    )

pub returns : goal.returns
returns c =
    let done = doubled_done c.args.s.now c.loop-c.c-index c.loop-c-test.false in
    record { value = omega (arith, ap length done); written = rw done at c.loop-c.invariant.2 }
