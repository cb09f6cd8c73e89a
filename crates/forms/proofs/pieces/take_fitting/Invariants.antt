use Prim.Native.Nat.{◌-◌}
use lib.ListN.{length}
use Rattle.forms.proofs.Fitted.{Loop}
use Rattle.forms.proofs.pieces.take_fitting.Given as goal

abbrev pub invariant-loop-at : goal.invariant-loop-at
invariant-loop-at l = Loop l.initial.conversion l.initial.part l.piece l.initial.out l.conversion l.part l.at l.out l.used

abbrev pub decreases-loop-at : goal.decreases-loop-at
decreases-loop-at l = length l.piece - l.at
