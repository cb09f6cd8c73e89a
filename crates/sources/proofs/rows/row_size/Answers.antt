use Rattle.std.specs.Prelude.{Err}
use mathlib.Core.Path.{sym, ap, ◌∙◌}
use native.Mathlib.Omega.{arith}
use Rattle.answers.specs.Writers.{size_in}
use Rattle.sources.specs.Rows.{row_of}
use Rattle.sources.proofs.RunSteps.{size_told}
use Rattle.sources.proofs.rows.row_size.Goals as goal

pub write_held-requires : goal.write_held-requires
write_held-requires c = c.requires

pub returns-in-Ok : goal.returns-in-Ok
returns-in-Ok c =
    let a = c.args in
    let w = c.write_held.ensures in
    let e = sym (ap size_in c.in-Ok.is) ∙ size_told (row_of a.run a.i a.zeroth.now) _ _ w.0.answers in
    (e, omega (arith, e, w.1))

pub returns-in-Err-Room : goal.returns-in-Err-Room
returns-in-Err-Room c =
    let a = c.args in
    let w = c.write_held.ensures in
    let e = sym (ap size_in (c.in-Err-Room.is ∙ ap Err c.in-Err-Room.field-0-is)) ∙ size_told (row_of a.run a.i a.zeroth.now) _ _ w.0.answers in
    (e, omega (arith, e, w.1))

pub returns-in-Err-Refused : goal.returns-in-Err-Refused
returns-in-Err-Refused c =
    let a = c.args in
    let w = c.write_held.ensures in
    let e = sym (ap size_in (c.in-Err-Refused.is ∙ ap Err c.in-Err-Refused.field-0-is)) ∙ size_told (row_of a.run a.i a.zeroth.now) _ _ w.0.answers in
    (e, omega arith)
