use Rattle.std.specs.Prelude.{Result, Err, ℕ}
use Rattle.answers.specs.declared.Unwritten.{Unwritten}
use Rattle.forms.specs.declared.Conversion.{Conversion}
use mathlib.Core.Path.{◌≡◌, ap, ◌∙◌, subst}
use Rattle.forms.specs.Pieces.{Begins}
use Rattle.forms.proofs.PieceCalls.{begun_for, begins}
use Rattle.forms.proofs.pieces.Progress.begin.Goals.{After-start}
use Rattle.forms.proofs.pieces.Progress.begin.Goals as goal

-- by the answer of `Conversion.start`
begun_by_lem : (c : After-start) {r : Result (Conversion × ℕ) Unwritten} → c.start.result ≡ r → Begins c.args.zeroth.now c.args.out.now (begun_for r) c.start.new.out
begun_by_lem c e =
    let a = c.args in
    subst (λ (r : Result (Conversion × ℕ) Unwritten). Begins a.zeroth.now a.out.now (begun_for r) c.start.new.out) e (begins a.zeroth.now a.out.now c.start.ensures.began)

pub returns-in-Ok : goal.returns-in-Ok
returns-in-Ok c = begun_by_lem (goal.at.returns-in-Ok c).After-start c.in-Ok.is

pub returns-in-Err-Room : goal.returns-in-Err-Room
returns-in-Err-Room c = rw c.at_zeroth.ensures (begun_by_lem (goal.at.returns-in-Err-Room c).After-start (c.in-Err-Room.is ∙ ap Err c.in-Err-Room.field-0-is))

pub returns-in-Err-Refused : goal.returns-in-Err-Refused
returns-in-Err-Refused c = rw c.at_zeroth-in-Err-Refused.ensures (begun_by_lem (goal.at.returns-in-Err-Refused c).After-start (c.in-Err-Refused.is ∙ ap Err c.in-Err-Refused.field-0-is))
