use Rattle.trace.proofs.Decisions.{other_sum, same_sum}
use Rattle.trace.proofs.read.right_check.Goals as goal

pub returns-then-block_sum-ne65535 : goal.returns-then-block_sum-ne65535
returns-then-block_sum-ne65535 c = other_sum c.args.b.now c.block_sum.ensures c.if-block_sum-ne65535.true

pub returns : goal.returns
returns c = same_sum c.args.b.now c.block_sum.ensures c.if-block_sum-ne65535.false c.read16.ensures
