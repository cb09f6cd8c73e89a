use Prim.Native.Nat.{◌-◌}
use lib.ListN.{length}
use Rattle.sdp.proofs.Walking.{Walking}
use Rattle.sdp.proofs.reader.read.Given as goal

abbrev pub invariant-loop-at : goal.invariant-loop-at
invariant-loop-at l = Walking l.line l.part l.tally l.at

abbrev pub decreases-loop-at : goal.decreases-loop-at
decreases-loop-at l = length l.line - l.at
