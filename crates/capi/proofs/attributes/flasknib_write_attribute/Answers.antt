use borrow.Author.Rules.{rules}
use mathlib.Core.Path.{sym, ◌∙◌}
use native.Mathlib.Omega.{arith}
use Rattle.capi.proofs.Answers.{coded}
use Rattle.capi.proofs.AttributeSteps.{write_refused, write_held, line_fits_lem}
use Rattle.capi.proofs.attributes.flasknib_write_attribute.Goals as goal

pub length-requires : goal.length-requires
length-requires c =
    omega (arith, line_fits_lem c.args.attribute.now (sym c.load.ensures ∙ c.in-Some.is) c.write.ensures)

pub returns-in-None : goal.returns-in-None
returns-in-None c =
    let a = c.args in
    coded (search rules) c.minus.ensures (write_refused a.attribute.now a.out.now (sym c.load.ensures ∙ c.in-None.is))

pub returns-in-Some : goal.returns-in-Some
returns-in-Some c =
    coded (search rules) c.length.ensures (write_held c.args.attribute.now (sym c.load.ensures ∙ c.in-Some.is) c.write.ensures)
