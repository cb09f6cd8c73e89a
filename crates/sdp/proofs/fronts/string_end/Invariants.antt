use Prim.Native.Nat.{◌-◌}
use lib.ListN.{length}
use Rattle.sdp.specs.Lengths.{closes}
use Rattle.sdp.proofs.Tokens.{Closing}
use Rattle.sdp.proofs.fronts.string_end.Given as goal

abbrev pub invariant-loop-at : goal.invariant-loop-at
invariant-loop-at l = Closing l.line l.at (closes (length l.line) l.line l.from)

abbrev pub decreases-loop-at : goal.decreases-loop-at
decreases-loop-at l = length l.line - l.at
