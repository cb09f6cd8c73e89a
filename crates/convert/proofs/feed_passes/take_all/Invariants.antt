use Prim.Native.Nat.{◌-◌}
use lib.ListN.{length}
use Rattle.convert.proofs.Passing.{Passage}
use Rattle.convert.proofs.feed_passes.take_all.Given as goal

abbrev pub invariant-loop-at : goal.invariant-loop-at
invariant-loop-at l = Passage l.initial.run l.zeroth l.piece l.initial.out l.from l.run l.at l.out l.used

abbrev pub decreases-loop-at : goal.decreases-loop-at
decreases-loop-at l = length l.piece - l.at
