use native.Mathlib.Omega.{arith}
use Rattle.sdp.proofs.writer.with_mode.Goals as goal

pub returns-in-SetOnly : goal.returns-in-SetOnly
returns-in-SetOnly c = record { grown = rw c.in-SetOnly.is c.with.ensures; bounded = omega (arith, c.with.ensures.long) }

pub returns-in-SetRead : goal.returns-in-SetRead
returns-in-SetRead c = record { grown = rw c.in-SetRead.is c.with-in-SetRead.ensures; bounded = omega (arith, c.with-in-SetRead.ensures.long) }

pub returns-in-ReadOnly : goal.returns-in-ReadOnly
returns-in-ReadOnly c = record { grown = rw c.in-ReadOnly.is c.with-in-ReadOnly.ensures; bounded = omega (arith, c.with-in-ReadOnly.ensures.long) }
