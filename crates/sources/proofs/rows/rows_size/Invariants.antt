use mathlib.Core.Path.{◌≡◌}
use Prim.Native.Nat.{◌+◌, ◌-◌, ◌*◌, ◌≤◌}
use lib.ListN.{length, drop}
use Rattle.sources.specs.Rows.{lines_of, label_of, rows_of}
use Rattle.sources.proofs.rows.rows_size.Given as goal

abbrev pub invariant-loop-i : goal.invariant-loop-i
invariant-loop-i l =
    (l.size + length (rows_of (label_of l.run l.zeroth) (drop l.i (lines_of l.run))) ≡ length (rows_of (label_of l.run l.zeroth) (lines_of l.run)))
    × (l.size ≤ 1228 * l.i) × (l.i ≤ l.n)

abbrev pub decreases-loop-i : goal.decreases-loop-i
decreases-loop-i l = l.n - l.i
