use Prim.Native.Nat.{◌+◌, ◌^◌}
use Rattle.source.proofs.Shifts.{first_history}
use Rattle.engine.specs.Lean.{cleared, restarted}
use Rattle.engine.proofs.steps.restarted.Goals as goal

pub returns : goal.returns
unfolding restarted
returns c =
    let a = c.args in
    λ i. record { base = a.number; highest = a.number; history = first_history i; awaited = 65536; counts = cleared a.t.counts + 256 ^ 6 + c.unit.ensures.0 i }
