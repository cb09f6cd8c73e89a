use Rattle.std.proofs.Common.{le-ltb, lt-ltb}
use Rattle.trace.proofs.contents.beyond.Goals as goal

pub returns-then-time-limit : goal.returns-then-time-limit
returns-then-time-limit c = rw (lt-ltb _ _ c.if-time-limit.true)

pub returns : goal.returns
returns c = rw (le-ltb _ _ c.if-time-limit.false)
