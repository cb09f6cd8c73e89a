use Rattle.std.proofs.Common.{◌^◌, arith}
use Rattle.numbers.specs.Since.{since}
use Rattle.numbers.proofs.Differences.{since_unique}
use Rattle.numbers.proofs.since.since32.Goals as goal

pub returns : goal.returns
unfolding since
returns c =
    let a = c.args in
    since_unique (2 ^ 32) a.later a.earlier _ (omega arith) (omega arith) (omega arith) (omega arith)
