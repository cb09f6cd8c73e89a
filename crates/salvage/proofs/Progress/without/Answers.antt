use Rattle.std.specs.Prelude.{Some}
use mathlib.Core.Path.{ap, ap₂}
use native.Mathlib.Omega.{arith}
use Rattle.table.specs.Lines.{refused_line}
use Rattle.salvage.specs.declared.Progress.{Progress}
use Rattle.salvage.specs.Pieces.{portion_by}
use Rattle.salvage.proofs.Calls.{moved_more, takes_none, takes_all}
use Rattle.salvage.proofs.Progress.without.Goals as goal

pub returns-in_default : goal.returns-in_default
returns-in_default c =
    let a = c.args in
    takes_none a.self (portion_by a.self.block a.many (Some a.refusal)) c.none_taken.ensures c.in_default.is
    (ap₂ refused_line c.number.ensures (ap (λ (p : Progress). p.block) c.moved-at.ensures))
    c.write_refused-answer.ensures

pub returns : goal.returns
returns c =
    let a = c.args in
    let at = c.moved-at in
    takes_all a.self (portion_by a.self.block a.many (Some a.refusal)) c.in-Ok.is (omega arith) (omega arith) (moved_more a.self a.many at.ensures c.moved.ensures)
    (ap₂ refused_line c.number.ensures (ap (λ (p : Progress). p.block) at.ensures))
    c.write_refused-answer.ensures
