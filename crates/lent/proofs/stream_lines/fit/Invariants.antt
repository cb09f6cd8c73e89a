use mathlib.Core.Path.{◌≡◌}
use Prim.Native.Nat.{◌-◌, ◌*◌}
use lib.ListN.{drop}
use Rattle.answers.specs.Conditions.{all}
use Rattle.lent.specs.StreamWords.{each_line, line_fits}
use Rattle.lent.proofs.stream_lines.fit.Given as goal

abbrev pub invariant-loop-i : goal.invariant-loop-i
invariant-loop-i l = all (each_line line_fits (l.n - l.i) (drop (13 * l.i) l.lines)) ≡ all (each_line line_fits l.n l.lines)

abbrev pub decreases-loop-i : goal.decreases-loop-i
decreases-loop-i l = l.n - l.i
