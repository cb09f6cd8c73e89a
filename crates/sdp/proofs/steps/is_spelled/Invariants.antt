use mathlib.Core.Path.{◌≡◌}
use Prim.Native.Nat.{◌≤◌, ◌-◌}
use lib.ListN.{length}
use Rattle.sdp.specs.Steps.{spelled}
use Rattle.sdp.proofs.Spelling.{same_from}
use Rattle.sdp.proofs.steps.is_spelled.Given as goal

abbrev pub invariant-loop-i : goal.invariant-loop-i
invariant-loop-i l = (l.i ≤ length l.s) × (length l.s ≡ length l.text) × (same_from l.text l.s l.i ≡ spelled l.text l.s)

abbrev pub decreases-loop-i : goal.decreases-loop-i
decreases-loop-i l = length l.s - l.i
