use Rattle.capi.proofs.Steps.{start_is}
use Rattle.capi.proofs.circuit.flasknib_breaker_start_preset.Goals as goal

pub returns : goal.returns
returns c =
    let a = c.args in
    start_is a.breaker.now c.start_preset.ensures.value c.put_start.ensures
