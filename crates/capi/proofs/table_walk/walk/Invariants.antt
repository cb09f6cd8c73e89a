use Prim.Native.Nat.{◌≤◌, ◌<◌}
use Rattle.capi.proofs.Walked.{Left, Named}
use Rattle.capi.proofs.table_walk.walk.Given as goal

abbrev pub invariant-loop-i : goal.invariant-loop-i
invariant-loop-i l = (l.i ≤ l.n) × (l.at < 16 → Named l.words l.ssrc l.i l.at) × Left l.words l.n l.least l.i
