use Rattle.std.proofs.Common.{sym, ◌∙◌, arith}
use Rattle.trace.proofs.Rewritten.{spaces_refused, label_fits, part_short, spaces_label, spaces_numbered}
use Rattle.trace.proofs.rewrite.space_label.Goals as goal

pub overflow_add-end : goal.overflow_add-end
overflow_add-end c = omega (arith, label_fits c.args.zeroth.now (sym c.read_label.ensures.value ∙ c.in-Ok.is))

pub slice_bounds-put_spaced_label-end : goal.slice_bounds-put_spaced_label-end
slice_bounds-put_spaced_label-end c = label_fits c.args.zeroth.now (sym c.read_label.ensures.value ∙ c.in-Ok.is)

pub put_spaced_label-requires : goal.put_spaced_label-requires
put_spaced_label-requires c = part_short c.args.zeroth.now (sym c.read_label.ensures.value ∙ c.in-Ok.is)

pub returns-in-Ok : goal.returns-in-Ok
returns-in-Ok c =
    let put = c.put_spaced_label in
    let done = spaces_numbered (spaces_label c.args.zeroth.now (sym c.read_label.ensures.value ∙ c.in-Ok.is) put.ensures.value put.ensures.written) in
    record { spaces = done.0; numbered = done.1 }

pub returns-in-Err : goal.returns-in-Err
returns-in-Err c =
    let a = c.args in
    let done = spaces_numbered (spaces_refused a.zeroth.now (sym c.read_label.ensures.value ∙ c.in-Err.is) a.out.now) in
    record { spaces = done.0; numbered = done.1 }
