use mathlib.Core.Path.{sym, ap, ◌∙◌}
use Rattle.sources.specs.Pieces.{begun_in}
use Rattle.sources.proofs.PieceCalls.{begun_none}
use Rattle.sources.proofs.pieces.Progress.begin.Goals as goal

pub returns-in-Ok : goal.returns-in-Ok
returns-in-Ok c =
    let b = c.args.zeroth.now in
    record { wrote = c.write_head-answer.ensures; progress = c.started.ensures ∙ sym (ap (begun_in b) c.in-Ok.is) }

pub returns-in-Err : goal.returns-in-Err
returns-in-Err c =
    let b = c.args.zeroth.now in
    let head = c.write_head-answer in
    record { wrote = head.ensures; progress = c.not_begun.ensures ∙ sym (begun_none b c.in-Err.is) }
