use Prim.Native.Nat.{◌-◌}
use lib.ListN.{length}
use Rattle.convert.proofs.Fitted.{Loop}
use Rattle.convert.proofs.pieces.take_fitting.Given as goal

abbrev pub invariant-loop-at : goal.invariant-loop-at
invariant-loop-at l = Loop l.initial.run l.zeroth l.piece l.initial.out l.run l.at l.out l.used

abbrev pub decreases-loop-at : goal.decreases-loop-at
decreases-loop-at l = length l.piece - l.at
