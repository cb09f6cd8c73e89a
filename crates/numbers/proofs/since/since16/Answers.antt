use Rattle.std.proofs.Common.{◌^◌, arith}
use Rattle.numbers.specs.Since.{since}
use Rattle.numbers.proofs.Differences.{since_unique}
use Rattle.numbers.proofs.since.since16.Goals as goal

pub returns : goal.returns
unfolding since
returns c =
    let a = c.args in
    since_unique (2 ^ 16) a.later a.earlier _ (omega arith) (omega arith) (omega arith) (omega arith)
