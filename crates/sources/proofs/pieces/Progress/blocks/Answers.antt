use mathlib.Core.Path.{sym, ◌∙◌}
use native.Mathlib.Omega.{arith}
use Rattle.sources.proofs.RunFaults.{told_refused, told_held, rows_good}
use Rattle.sources.proofs.PieceCalls.{takes_over, takes_refused, takes_whole}
use Rattle.sources.proofs.pieces.Progress.blocks.Goals as goal

pub returns-in-Some : goal.returns-in-Some
returns-in-Some c =
    let a = c.args in
    rw c.none_taken.ensures (takes_over a.self a.zeroth.now a.piece.now a.out.now (omega (arith, c.well_formed)) c.in-Some.is)

pub returns-in-Err : goal.returns-in-Err
returns-in-Err c =
    let a = c.args in
    rw c.none_taken-in-Err.ensures
    (takes_refused a.self a.zeroth.now a.piece.now a.out.now c.in_default.is (told_refused a.self.run a.zeroth.now (sym c.in-Err.is ∙ c.judge_with.ensures)))

pub take_whole-reach-requires : goal.take_whole-reach-requires
take_whole-reach-requires c =
    let a = c.args in
    (rows_good a.self.run a.zeroth.now (told_held a.self.run a.zeroth.now (sym c.in_default-judge_with.is ∙ c.judge_with.ensures)).good).0

pub returns : goal.returns
returns c =
    let a = c.args in
    takes_whole a.self a.zeroth.now a.piece.now a.out.now c.in_default.is
    (told_held a.self.run a.zeroth.now (sym c.in_default-judge_with.is ∙ c.judge_with.ensures)).good c.take_whole-reach.ensures c.number_after.ensures
