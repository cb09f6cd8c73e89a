use borrow.Author.Rules.{rules}
use mathlib.Core.Path.{sym, ◌∙◌}
use native.Mathlib.Omega.{arith}
use Rattle.answers.proofs.Stores.{wrote_size}
use Rattle.capi.proofs.Answers.{coded}
use Rattle.capi.proofs.FormsSteps.{close_other, close_held, close_long}
use Rattle.capi.proofs.conversions.flasknib_forms_close.Goals as goal

pub returns-in_default : goal.returns-in_default
returns-in_default c =
    let a = c.args in
    coded (search rules) c.minus.ensures (close_other a.words.now a.part.now a.out.now (sym c.load.ensures ∙ c.in_default.is))

pub length-requires : goal.length-requires
length-requires c =
    let part = c.args.part.now in
    omega (arith, wrote_size 512 (close_long c.in-Some.given part) c.close.ensures)

pub returns : goal.returns
returns c =
    let a = c.args in
    let e = sym c.load.ensures ∙ c.in-Some.is in
    coded (search rules) c.length.ensures (close_held a.words.now a.part.now a.out.now e c.close.ensures)
