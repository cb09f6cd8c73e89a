use mathlib.Core.Path.{sym, ap, ◌∙◌}
use Rattle.breaker.specs.declared.Breaker.{Breaker}
use Rattle.breaker.specs.Calls.{tick_of}
use Rattle.breaker.specs.Runs.{called}
use Rattle.capi.proofs.Steps.{no_record, its_record, record_sized, call_malformed, call_made}
use Rattle.capi.proofs.circuit.flasknib_breaker_tick.Goals as goal

pub returns-in_default : goal.returns-in_default
returns-in_default c =
    let words = c.args.breaker.now in
    call_malformed _ words (no_record words (sym c.record_in.ensures ∙ c.in_default.is)) c.code.ensures

pub put_back-requires : goal.put_back-requires
put_back-requires c =
    let words = c.args.breaker.now in
    record_sized words (its_record words (sym c.record_in.ensures ∙ c.in-Some.is)).0

pub returns : goal.returns
unfolding called
returns c =
    let a = c.args in
    let k = its_record a.breaker.now (sym c.record_in.ensures ∙ c.in-Some.is) in
    let made = c.tick.ensures.value ∙ ap (λ (b : Breaker). tick_of b a.time) k.1 in
    call_made _ a.breaker.now k.0 made c.put_back.ensures
