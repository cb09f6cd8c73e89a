use mathlib.Core.Path.{refl, sym, ◌∙◌}
use Rattle.answers.proofs.Stores.{wrote_refused, wrote_same}
use Rattle.sources.specs.Rows.{lines_of, label_of, rows_of}
use Rattle.sources.proofs.RunFaults.{told_refused, told_held}
use Rattle.sources.proofs.rows.write_rows.Goals as goal

pub write_all-requires : goal.write_all-requires
write_all-requires c = let a = c.args in told_held a.run a.zeroth.now (sym c.in-Ok.is ∙ c.judge_with.ensures)

pub returns-in-Err : goal.returns-in-Err
returns-in-Err c =
    let a = c.args in
    let zeroth = a.zeroth.now in
    wrote_refused (rows_of (label_of a.run zeroth) (lines_of a.run)) a.out.now (told_refused a.run zeroth (sym c.in-Err.is ∙ c.judge_with.ensures))

pub returns-in-Ok : goal.returns-in-Ok
returns-in-Ok c =
    let a = c.args in
    wrote_same (sym (told_held a.run a.zeroth.now (sym c.in-Ok.is ∙ c.judge_with.ensures)).good) refl c.write_all.ensures
