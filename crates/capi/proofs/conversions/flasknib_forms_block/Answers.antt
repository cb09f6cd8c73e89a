use borrow.Author.Rules.{rules}
use mathlib.Core.Path.{sym, ◌∙◌}
use native.Mathlib.Omega.{arith}
use Rattle.numbers.proofs.Signed.{seen_is}
use Rattle.lent.proofs.ConversionLaws.{held}
use Rattle.capi.proofs.StepLaws.{takes_as}
use Rattle.capi.proofs.FormsSteps.{forms_other, forms_stepped, forms_size}
use Rattle.capi.proofs.conversions.flasknib_forms_block.Goals as goal

pub returns-in_default : goal.returns-in_default
returns-in_default c =
    let a = c.args in
    let w = forms_other a.words.now a.part.now a.block.now a.out.now (sym c.load.ensures ∙ c.in_default.is) in
    record { takes = takes_as (seen_is c.minus.result (search rules) ∙ c.minus.ensures) w.takes; holds = w.holds }

pub put_back-requires : goal.put_back-requires
put_back-requires c =
    let a = c.args in
    let e = sym c.load.ensures ∙ c.in-Some.is in
    ((held a.words.now e).0, omega (arith, forms_size c.in-Some.given a.part.now a.block.now a.out.now c.block.ensures))

pub returns : goal.returns
returns c =
    let a = c.args in
    let e = sym c.load.ensures ∙ c.in-Some.is in
    let w = forms_stepped a.words.now a.part.now a.block.now a.out.now e c.block.ensures c.put_back.ensures in
    record { takes = takes_as (seen_is c.put_back.result (search rules)) w.takes; holds = w.holds }
