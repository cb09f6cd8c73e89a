use Rattle.std.proofs.Common.{sym, ◌∙◌, arith}
use Rattle.trace.proofs.Rewritten.{as_refused, label_fits, part_short, as_label}
use Rattle.trace.proofs.rewrite.write_label_as.Goals as goal

pub overflow_add-end : goal.overflow_add-end
overflow_add-end c = omega (arith, label_fits c.args.zeroth.now (sym c.read_label.ensures.value ∙ c.in-Ok.is))

pub slice_bounds-put_label-end : goal.slice_bounds-put_label-end
slice_bounds-put_label-end c = label_fits c.args.zeroth.now (sym c.read_label.ensures.value ∙ c.in-Ok.is)

pub put_label-requires : goal.put_label-requires
put_label-requires c = part_short c.args.zeroth.now (sym c.read_label.ensures.value ∙ c.in-Ok.is)

pub returns-in-Ok : goal.returns-in-Ok
returns-in-Ok c = let a = c.args in as_label a.zeroth.now (sym c.read_label.ensures.value ∙ c.in-Ok.is) a.form c.put_label.ensures

pub returns-in-Err : goal.returns-in-Err
returns-in-Err c = let a = c.args in as_refused a.zeroth.now (sym c.read_label.ensures.value ∙ c.in-Err.is) a.out.now a.form
