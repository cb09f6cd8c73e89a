use lib.ListN.{length}
use Rattle.shell.proofs.Taking.{Held, to_write}
use Rattle.shell.proofs.writing.write_all.Given as goal

abbrev pub invariant-loop-at : goal.invariant-loop-at
invariant-loop-at l = Held (length l.bytes) l.writing

abbrev pub decreases-loop-at : goal.decreases-loop-at
decreases-loop-at l = to_write (length l.bytes) l.writing
