use native.Mathlib.Omega.{arith}
use borrow.Author.Tests.{lt-ltb, le-ltb}
use Rattle.engine.proofs.steps.fall.Goals as goal

pub returns-then-d-lt64 : goal.returns-then-d-lt64
returns-then-d-lt64 c = (rw (lt-ltb c.args.d 64 c.if-d-lt64.true), omega arith)

pub returns-else-d-lt64 : goal.returns-else-d-lt64
returns-else-d-lt64 c = (rw (le-ltb c.args.d 64 c.if-d-lt64.false), omega arith)
