use mathlib.Core.Path.{refl}
use native.Mathlib.Omega.{arith}
use Rattle.sources.proofs.PieceCalls.{ends_refused, ends_part, ends_rows}
use Rattle.sources.proofs.pieces.Progress.end.Goals as goal

pub returns-then-rest-eq0 : goal.returns-then-rest-eq0
returns-then-rest-eq0 c =
    let a = c.args in
    ends_rows a.self a.zeroth.now a.rest.now a.out.now a.err.now refl c.in-None.is c.if-rest-eq0.true c.write_rows-written.ensures

pub returns-in-Some : goal.returns-in-Some
returns-in-Some c =
    let a = c.args in
    let r = c.refused_at.ensures in
    ends_refused a.self a.zeroth.now a.rest.now a.out.now a.err.now r.0 c.in-Some.is r.1

pub returns-else-rest-eq0 : goal.returns-else-rest-eq0
returns-else-rest-eq0 c =
    let a = c.args in
    let r = c.refused_at-in-None.ensures in
    ends_part a.self a.zeroth.now a.rest.now a.out.now a.err.now r.0 c.in-None.is (omega (arith, c.if-rest-eq0.false)) r.1
