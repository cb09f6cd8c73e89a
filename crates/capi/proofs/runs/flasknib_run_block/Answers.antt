use borrow.Author.Rules.{rules}
use mathlib.Core.Path.{sym, ◌∙◌}
use native.Mathlib.Omega.{arith}
use Rattle.numbers.proofs.BigEndian.{Octets}
use Rattle.numbers.proofs.Signed.{seen_is}
use Rattle.lent.proofs.RunLaws.{held}
use Rattle.capi.proofs.StepLaws.{takes_as}
use Rattle.capi.proofs.RunSteps.{run_other, run_stepped, run_size}
use Rattle.capi.proofs.runs.flasknib_run_block.Goals as goal

pub returns-in_default : goal.returns-in_default
returns-in_default c =
    let a = c.args in
    takes_as (seen_is c.minus.result (search rules) ∙ c.minus.ensures)
    (run_other a.run.now a.zeroth.now a.block.now a.out.now (sym c.load.ensures ∙ c.in_default.is))

pub put_back-requires : goal.put_back-requires
put_back-requires c =
    let a = c.args in
    let e = sym c.load.ensures ∙ c.in-Some.is in
    let octets : Octets a.block.now = λ i. omega (arith, c.type_inv.block i) in
    ((held a.run.now e).0, omega (arith, run_size a.run.now a.zeroth.now a.block.now a.out.now e octets c.block.ensures))

pub returns : goal.returns
returns c =
    let a = c.args in
    let e = sym c.load.ensures ∙ c.in-Some.is in
    takes_as (seen_is c.put_back.result (search rules))
    (run_stepped a.run.now a.zeroth.now a.block.now a.out.now e c.block.ensures c.put_back.ensures)
