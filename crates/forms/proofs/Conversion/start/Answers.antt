use Rattle.std.specs.Prelude.{Result, Ok, ℕ}
use Rattle.answers.specs.declared.Unwritten.{Unwritten}
use Rattle.std.proofs.lemmas.Result.{err_from_is_err_and}
use mathlib.Core.Path.{◌≡◌, sym, ap, ◌∙◌}
use Rattle.forms.specs.Numbered.{begin_as}
use Rattle.forms.specs.Conversions.{Began, begin_by}
use Rattle.forms.proofs.Steps.{begin_label, begin_refused}
use Rattle.forms.proofs.Conversion.start.Goals.{After-write_label_as}
use Rattle.forms.proofs.Conversion.start.Goals as goal

-- what the label's writer answered and stored
begins : (c : After-write_label_as) {w : Result ℕ Unwritten} → c.write_label_as.result ≡ w → Began c.args.zeroth.now c.args.out.now (begin_by (Ok c.in_ok-label.label) w) c.write_label_as.new.out
begins c e =
    let a = c.args in
    begin_label a.zeroth.now a.out.now (sym c.read_label.ensures.value ∙ c.in_ok-label.was) c.other.ensures c.write_label_as.ensures (ap (begin_by (Ok c.in_ok-label.label)) e)

pub returns-in_err-label-clause-began : goal.returns-in_err-label-clause-began
returns-in_err-label-clause-began c =
    let a = c.args in
    let p = err_from_is_err_and c.from_residual.result c.from_residual.ensures.1 in
    rw (p.1, p.2) (begin_refused a.zeroth.now a.out.now (sym c.read_label.ensures.value ∙ c.in_err-label.was))

pub returns-in_err-label-clause-numbered : goal.returns-in_err-label-clause-numbered
returns-in_err-label-clause-numbered c = ap begin_as (returns-in_err-label-clause-began c).answers

pub returns-in_err-n-clause-began : goal.returns-in_err-n-clause-began
returns-in_err-n-clause-began c =
    let p = err_from_is_err_and c.from_residual-in_err-n.result c.from_residual-in_err-n.ensures.1 in
    rw (p.1, p.2) (begins (goal.at.returns-in_err-n-clause-began c).After-write_label_as c.in_err-n.was)

pub returns-in_err-n-clause-numbered : goal.returns-in_err-n-clause-numbered
returns-in_err-n-clause-numbered c = ap begin_as (returns-in_err-n-clause-began c).answers

pub returns-clause-began : goal.returns-clause-began
returns-clause-began c = begins (goal.at.returns-clause-began c).After-write_label_as c.in_ok-n.was

pub returns-clause-numbered : goal.returns-clause-numbered
returns-clause-numbered c = ap begin_as (returns-clause-began c).answers
