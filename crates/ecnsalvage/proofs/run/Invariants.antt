use mathlib.Core.Path.{◌≡◌}
use lib.ListN.{length}
use Rattle.ecnsalvage.proofs.run.Given as goal

abbrev pub invariant-loop-turns : goal.invariant-loop-turns
invariant-loop-turns l =
    (length l.kept ≡ length l.initial.kept) × (length l.piece ≡ length l.initial.piece) × (length l.errors ≡ length l.initial.errors)

abbrev pub decreases-loop-turns : goal.decreases-loop-turns
decreases-loop-turns l = l.turns
