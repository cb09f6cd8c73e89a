use mathlib.Core.Path.{sym, ap, ◌∙◌}
use native.Mathlib.Omega.{arith}
use Rattle.answers.specs.Writers.{length_in}
use Rattle.sources.specs.Rows.{row_of}
use Rattle.sources.proofs.RunSteps.{put_there, put_size, never_other}
use Rattle.sources.proofs.rows.put_row.Goals as goal

pub slice_bounds-write_held-start : goal.slice_bounds-write_held-start
slice_bounds-write_held-start c = omega (arith, c.requires.2)

pub write_held-requires : goal.write_held-requires
write_held-requires c = (c.requires.0, c.requires.1)

pub returns-in-Ok : goal.returns-in-Ok
returns-in-Ok c =
    let a = c.args in
    let row = row_of a.run a.i a.zeroth.now in
    let w = c.write_held.ensures.0 in
    (sym (ap length_in c.in-Ok.is) ∙ ap length_in (put_size a.out.now row _ a.at _ c.requires.2 w), put_there a.out.now row _ a.at _ c.requires.2 w)

pub returns-in-Err : goal.returns-in-Err
returns-in-Err c =
    let a = c.args in
    let row = row_of a.run a.i a.zeroth.now in
    let w = c.write_held.ensures.0 in
    absurd (never_other _ (put_size a.out.now row _ a.at _ c.requires.2 w) c.in-Err.is)
