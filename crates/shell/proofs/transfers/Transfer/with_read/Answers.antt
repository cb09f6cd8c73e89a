use Rattle.shell.proofs.Rests.{reads_on}
use Rattle.shell.proofs.transfers.Transfer.with_read.Goals as goal

pub returns : goal.returns
returns c =
    let a = c.args in
    let kept = c.kept-kept in
    let read = c.read_on-next in
    reads_on a.self a.piece.now kept.ensures.0 kept.ensures.1 read.ensures read.auto.buffer
