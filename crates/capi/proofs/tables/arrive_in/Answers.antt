use mathlib.Core.Path.{sym, ◌∙◌}
use Rattle.capi.proofs.TableCalls.{arrives_refused, arrives_taken}
use Rattle.capi.proofs.tables.arrive_in.Goals as goal

pub returns-in-Err : goal.returns-in-Err
returns-in-Err c =
    let a = c.args in
    let told = sym c.load.ensures ∙ c.in-Err.is in
    let w = arrives_refused a.words.now a.ssrc a.wire a.mark told in
    record { answers = c.number.ensures ∙ w.answers; stores = w.stores }

pub returns-in-Ok : goal.returns-in-Ok
returns-in-Ok c =
    let a = c.args in
    let told = sym c.load.ensures ∙ c.in-Ok.is in
    arrives_taken a.words.now a.ssrc a.wire a.mark told c.arrive.ensures c.put_arrived.ensures
