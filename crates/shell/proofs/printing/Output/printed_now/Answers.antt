use mathlib.Core.Path.{◌∙◌}
use native.Mathlib.Omega.{arith}
use lib.ListN.{length}
use Rattle.shell.proofs.Fronts.{due_within, front_long, prints}
use Rattle.shell.proofs.printing.Output.printed_now.Goals as goal

pub slice_bounds-write_all-end : goal.slice_bounds-write_all-end
slice_bounds-write_all-end c =
    let a = c.args in
    omega (arith, c.due-end.ensures, due_within a.self (length a.bytes.now))

pub returns : goal.returns
returns c =
    let a = c.args in
    let due = c.due-end in
    let long = front_long a.bytes.now due.result (omega (arith, due.ensures, due_within a.self (length a.bytes.now))) in
    prints (length a.bytes.now) a.self c.write_all-done.result (long ∙ due.ensures) c.write_all-done.ensures c.after.ensures
