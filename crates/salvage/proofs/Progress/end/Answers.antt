use native.Mathlib.Omega.{arith}
use Rattle.salvage.proofs.Calls.{end_whole, end_refused, end_part, ends_none}
use Rattle.salvage.proofs.Progress.end.Goals as goal

pub returns-then-rest-eq0 : goal.returns-then-rest-eq0
returns-then-rest-eq0 c =
    let a = c.args in
    ends_none a.self a.rest.now a.err.now (end_whole a.self a.rest.now c.in-None.is c.if-rest-eq0.true)

pub returns-in-Some : goal.returns-in-Some
returns-in-Some c =
    let a = c.args in
    rw (end_refused a.self a.rest.now c.in-Some.is, ← c.number.ensures) c.write_refused.ensures

pub returns-else-rest-eq0 : goal.returns-else-rest-eq0
returns-else-rest-eq0 c =
    let a = c.args in
    rw (end_part a.self a.rest.now c.in-None.is (omega (arith, c.if-rest-eq0.false)), ← c.number-in-None.ensures)
    c.write_refused-in-None.ensures
