use mathlib.Core.Path.{◌≡◌}
use Prim.Native.Nat.{◌-◌, ◌≤◌}
use Rattle.sources.specs.Rules.{rising}
use Rattle.lent.specs.StreamWords.{each_line, place_in}
use Rattle.lent.proofs.StreamRuns.{rises_from}
use Rattle.lent.proofs.stream_lines.rise.Given as goal

abbrev pub invariant-loop-i : goal.invariant-loop-i
invariant-loop-i l = (1 ≤ l.i) × (rises_from l.n l.lines l.i ≡ rising 0 (each_line place_in l.n l.lines))

abbrev pub decreases-loop-i : goal.decreases-loop-i
decreases-loop-i l = l.n - l.i
