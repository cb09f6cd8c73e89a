use mathlib.Core.Path.{◌≡◌}
use mathlib.Core.List.{List}
use Prim.Native.Nat.{ℕ, ◌+◌, ◌-◌}
use lib.ListN.{length, drop}
use lib.Seq.{sets}
use Rattle.sources.specs.declared.runs.Run.{Run}
use Rattle.sources.specs.Rows.{lines_of, label_of, rows_of}
use Rattle.sources.proofs.rows.put_rows.Given as goal

pub record Loop (label : List ℕ) (run : Run) (old out : List ℕ) (at i : ℕ) : Type 0 where
  pub stores : sets out at (rows_of label (drop i (lines_of run))) ≡ sets old 0 (rows_of label (lines_of run))
  pub size : length out ≡ length old
  pub long : at + length (rows_of label (drop i (lines_of run))) ≡ length (rows_of label (lines_of run))

abbrev pub invariant-loop-i : goal.invariant-loop-i
invariant-loop-i l = Loop (label_of l.run l.zeroth) l.run l.initial.out l.out l.at l.i

abbrev pub decreases-loop-i : goal.decreases-loop-i
decreases-loop-i l = l.n - l.i
