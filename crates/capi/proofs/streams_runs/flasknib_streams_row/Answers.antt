use borrow.Author.Rules.{rules}
use mathlib.Core.Path.{sym, ◌∙◌}
use native.Mathlib.Omega.{arith}
use Rattle.answers.proofs.Stores.{wrote_size}
use Rattle.table.specs.Theorems.{row_most}
use Rattle.capi.proofs.Answers.{coded}
use Rattle.capi.proofs.StreamsSteps.{row_refused, row_held, row_long}
use Rattle.capi.proofs.streams_runs.flasknib_streams_row.Goals as goal

pub length-requires : goal.length-requires
length-requires c =
    let a = c.args in
    let told = sym c.load.ensures ∙ c.in-Ok.is in
    let long = row_long a.run.now a.i a.lines.now a.zeroth.now a.out.now told in
    omega (arith, wrote_size row_most long c.row.ensures)

pub returns-in-Err : goal.returns-in-Err
returns-in-Err c =
    let a = c.args in
    let told = sym c.load.ensures ∙ c.in-Err.is in
    coded (search rules) c.minus.ensures (row_refused a.run.now a.i a.lines.now a.zeroth.now a.out.now told)

pub returns-in-Ok : goal.returns-in-Ok
returns-in-Ok c =
    let a = c.args in
    let told = sym c.load.ensures ∙ c.in-Ok.is in
    coded (search rules) c.length.ensures
    (row_held a.run.now a.i a.lines.now a.zeroth.now a.out.now told c.row.ensures)
