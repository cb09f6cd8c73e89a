use Prim.Native.Nat.{◌+◌}
use native.Mathlib.Omega.{arith}
use Rattle.sdp.proofs.Turns.{value_fits}
use Rattle.sdp.proofs.steps.parm_value.Goals as goal

pub slice_bounds-parm_item-end-2 : goal.slice_bounds-parm_item-end-2
slice_bounds-parm_item-end-2 c =
    let e = c.value_end-end.ensures in
    omega (arith, value_fits c.args.line.now (c.args.name + 1) (omega arith) (omega (arith, e)), e)
