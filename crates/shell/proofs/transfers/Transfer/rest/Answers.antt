use Rattle.shell.specs.Fills.{end_of}
use Rattle.shell.proofs.Lefts.{part_is}
use Rattle.shell.proofs.transfers.Transfer.rest.Goals as goal

pub returns : goal.returns
returns c =
    let a = c.args in
    part_is a.piece.now a.self.from (end_of a.self.input) c.left_end-end.ensures c.least-from.ensures
