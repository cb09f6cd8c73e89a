use mathlib.Core.Path.{sym, ◌∙◌}
use Rattle.capi.proofs.TableCalls.{place_refused, place_taken}
use Rattle.capi.proofs.tables.flasknib_sources_place.Goals as goal

pub returns-in-Err : goal.returns-in-Err
returns-in-Err c =
    let a = c.args in
    let told = sym c.load.ensures ∙ c.in-Err.is in
    let w = place_refused a.words.now a.place a.found.now told in
    record { answers = c.number.ensures ∙ w.answers; stores = w.stores }

pub returns-in-Ok : goal.returns-in-Ok
returns-in-Ok c =
    let a = c.args in
    let told = sym c.load.ensures ∙ c.in-Ok.is in
    place_taken a.words.now a.place a.found.now told c.put_held.ensures
