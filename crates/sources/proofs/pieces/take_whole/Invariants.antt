use Prim.Native.Nat.{◌-◌}
use lib.ListN.{length}
use Rattle.sources.proofs.KnownLoop.{Taking}
use Rattle.sources.proofs.pieces.take_whole.Given as goal

abbrev pub invariant-loop-at : goal.invariant-loop-at
invariant-loop-at l = Taking l.initial.run l.piece l.run l.at

abbrev pub decreases-loop-at : goal.decreases-loop-at
decreases-loop-at l = length l.piece - l.at
