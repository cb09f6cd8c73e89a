use borrow.Author.Rules.{rules}
use mathlib.Core.Path.{sym, ◌∙◌}
use native.Mathlib.Omega.{arith}
use Rattle.capi.proofs.Answers.{coded}
use Rattle.capi.proofs.TableCalls.{compound_refused, compound_wrote, compound_size}
use Rattle.capi.proofs.tables.flasknib_sources_write_compound.Goals as goal

pub length-requires : goal.length-requires
length-requires c =
    let a = c.args in
    let told = sym c.load.ensures ∙ c.in-Ok.is in
    omega (arith, compound_size a.words.now a.sender a.out.now told c.write_compound.ensures)

pub returns-in-Err : goal.returns-in-Err
returns-in-Err c =
    let a = c.args in
    let told = sym c.load.ensures ∙ c.in-Err.is in
    coded (search rules) c.minus.ensures (compound_refused a.words.now a.sender a.out.now told)

pub returns-in-Ok : goal.returns-in-Ok
returns-in-Ok c =
    let a = c.args in
    let told = sym c.load.ensures ∙ c.in-Ok.is in
    coded (search rules) c.length.ensures
    (compound_wrote a.words.now a.sender a.out.now told c.write_compound.ensures)
