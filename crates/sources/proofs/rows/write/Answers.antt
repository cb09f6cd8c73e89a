use mathlib.Core.Path.{refl, sym, ◌∙◌}
use Rattle.answers.proofs.Stores.{wrote_refused, wrote_same}
use Rattle.sources.specs.Rows.{row_of}
use Rattle.sources.proofs.RunFaults.{told_refused, told_held, row_refused, row_behind, row_goes}
use Rattle.sources.proofs.rows.write.Goals as goal

pub returns-then-n-i : goal.returns-then-n-i
returns-then-n-i c =
    let a = c.args in
    let zeroth = a.zeroth.now in
    wrote_refused (row_of a.run a.i zeroth) a.out.now
    (row_behind a.run zeroth a.i (told_held a.run zeroth (sym c.in-Ok.is ∙ c.judge_with.ensures)) c.if-n-i.true)

pub write_held-requires : goal.write_held-requires
write_held-requires c =
    let a = c.args in
    (told_held a.run a.zeroth.now (sym c.in-Ok.is ∙ c.judge_with.ensures), c.if-n-i.false)

pub returns-in-Err : goal.returns-in-Err
returns-in-Err c =
    let a = c.args in
    let zeroth = a.zeroth.now in
    wrote_refused (row_of a.run a.i zeroth) a.out.now (row_refused a.run zeroth a.i (told_refused a.run zeroth (sym c.in-Err.is ∙ c.judge_with.ensures)))

pub returns-else-n-i : goal.returns-else-n-i
returns-else-n-i c =
    let a = c.args in
    let zeroth = a.zeroth.now in
    wrote_same (sym (row_goes a.run zeroth a.i (told_held a.run zeroth (sym c.in-Ok.is ∙ c.judge_with.ensures)) c.if-n-i.false)) refl c.write_held.ensures.0
