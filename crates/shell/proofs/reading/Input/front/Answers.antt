use Rattle.shell.specs.Fills.{end_of}
use Rattle.shell.proofs.Lefts.{front_is}
use Rattle.shell.proofs.reading.Input.front.Goals as goal

pub returns : goal.returns
returns c =
    let a = c.args in
    front_is a.buffer.now (end_of a.self) c.left_end-to.ensures
