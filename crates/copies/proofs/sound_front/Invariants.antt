use Prim.Native.Nat.{◌-◌}
use lib.ListN.{length}
use Rattle.copies.proofs.Fronts.{Loop}
use Rattle.copies.proofs.sound_front.Given as goal

abbrev pub invariant-loop-at : goal.invariant-loop-at
invariant-loop-at l = Loop l.form l.ssrc l.piece l.at

abbrev pub decreases-loop-at : goal.decreases-loop-at
decreases-loop-at l = length l.piece - l.at
