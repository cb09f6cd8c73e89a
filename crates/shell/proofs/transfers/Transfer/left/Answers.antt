use Rattle.shell.proofs.Lefts.{part_is}
use Rattle.shell.proofs.transfers.Transfer.left.Goals as goal

pub returns : goal.returns
returns c =
    let a = c.args in
    part_is a.piece.now a.self.from a.self.input.bytes c.least-to.ensures c.least-from.ensures
