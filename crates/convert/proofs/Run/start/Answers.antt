use Rattle.std.specs.Prelude.{Ok}
use Rattle.std.proofs.lemmas.Result.{err_from_is_err_and}
use Rattle.convert.specs.Numbered.{begin_as}
use mathlib.Core.Path.{sym, ap, ◌∙◌}
use Rattle.source.specs.declared.Totals.{Totals}
use Rattle.convert.proofs.Steps.{start_by_lem}
use Rattle.convert.proofs.Run.start.Goals as goal

pub returns-clause-value : goal.returns-clause-value
returns-clause-value c =
    let own = c.in_ok-form.field-0 in
    ap (λ (t : Totals). Ok (record { form = own.form; length = own.length; ssrc = own.ssrc; totals = t })) c.fresh-totals.ensures
    ∙ sym (start_by_lem c.args.zeroth.now (sym c.read_label.ensures.value ∙ c.in_ok-form.was))

pub returns-clause-numbered : goal.returns-clause-numbered
returns-clause-numbered c = ap begin_as (returns-clause-value c)

pub returns-in_err-form-clause-value : goal.returns-in_err-form-clause-value
returns-in_err-form-clause-value c =
    let p = err_from_is_err_and c.from_residual.result c.from_residual.ensures.1 in
    rw (p.1, p.2) (sym (start_by_lem c.args.zeroth.now (sym c.read_label.ensures.value ∙ c.in_err-form.was)))

pub returns-in_err-form-clause-numbered : goal.returns-in_err-form-clause-numbered
returns-in_err-form-clause-numbered c = ap begin_as (returns-in_err-form-clause-value c)
