use borrow.Author.Rules.{rules}
use mathlib.Core.Path.{sym, ◌∙◌}
use native.Mathlib.Omega.{arith}
use mir.Syntax.{w64}
use mir.ValLaws.{to_z_pos}
use Rattle.numbers.proofs.Signed.{seen_is}
use Rattle.sources.proofs.Checking.{told_refused, told_held, passed}
use Rattle.capi.proofs.tables.held_in.Goals as goal

pub overflow_cast-result : goal.overflow_cast-result
overflow_cast-result c =
    let t = c.args.t in
    let p = passed t _ (told_held t (sym c.in-Ok.is ∙ c.check.ensures)) in
    record { sfits = omega (arith, p.most, p.few) }

pub returns-in-Err : goal.returns-in-Err
returns-in-Err c =
    let f = told_refused c.args.t (sym c.in-Err.is ∙ c.check.ensures) in
    rw f (seen_is c.minus.result (search rules) ∙ c.minus.ensures)

pub returns-in-Ok : goal.returns-in-Ok
returns-in-Ok c =
    let t = c.args.t in
    let good = told_held t (sym c.in-Ok.is ∙ c.check.ensures) in
    let p = passed t _ good in
    rw (good.kept, ← good.count) (to_z_pos w64 c.in-Ok.n (omega (arith, p.most, p.few)))
