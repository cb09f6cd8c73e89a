use Rattle.shell.proofs.Filling.{reads_once}
use Rattle.shell.proofs.reading.read_on.Goals as goal

pub returns : goal.returns
returns c =
    let a = c.args in
    let read = c.read_until in
    reads_once a.first a.buffer.now c.least-kept.ensures c.least.ensures read.ensures.0
    read.ensures.1 read.auto.buffer
