use native.Mathlib.Omega.{arith}
use Rattle.sdp.proofs.writer.with_method.Goals as goal

pub returns-in-Rtp : goal.returns-in-Rtp
returns-in-Rtp c = record { grown = rw c.in-Rtp.is c.with.ensures; bounded = omega (arith, c.with.ensures.long) }

pub returns-in-Ice : goal.returns-in-Ice
returns-in-Ice c = record { grown = rw c.in-Ice.is c.with-in-Ice.ensures; bounded = omega (arith, c.with-in-Ice.ensures.long) }

pub returns-in-Leap : goal.returns-in-Leap
returns-in-Leap c = record { grown = rw c.in-Leap.is c.with-in-Leap.ensures; bounded = omega (arith, c.with-in-Leap.ensures.long) }
