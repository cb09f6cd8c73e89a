use Rattle.labels.proofs.Calls.{taken_over, taken_front}
use Rattle.labels.proofs.Progress.blocks.Goals as goal

pub returns-in_default : goal.returns-in_default
returns-in_default c =
    let a = c.args in
    taken_over a.self a.piece.now c.in_default.is

pub returns : goal.returns
returns c =
    let a = c.args in
    taken_front a.self a.piece.now c.in-None.is c.sound_front-front.ensures c.number_after-block.ensures
