use Rattle.engine.proofs.Parting.{Parting}
use Rattle.engine.proofs.parts.count.Given as goal

abbrev pub invariant-loop-left : goal.invariant-loop-left
invariant-loop-left l = Parting l.width l.records l.s l.at l.left l.next l.jumps l.restarts

abbrev pub decreases-loop-left : goal.decreases-loop-left
decreases-loop-left l = l.left
