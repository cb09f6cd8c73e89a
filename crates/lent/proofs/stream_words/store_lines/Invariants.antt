use mathlib.Core.Path.{◌≡◌}
use Prim.Native.Nat.{◌*◌, ◌≤◌}
use lib.ListN.{length, drop}
use lib.Seq.{sets}
use Rattle.sources.specs.Places.{held_of}
use Rattle.sources.specs.Tables.{lent}
use Rattle.sources.specs.Rows.{lines_from}
use Rattle.lent.specs.StreamWords.{lines_words}
use Rattle.lent.proofs.stream_words.store_lines.Given as goal

abbrev pub invariant-loop-i : goal.invariant-loop-i
invariant-loop-i l =
    (length l.lines ≡ length l.initial.lines)
    × (l.i ≤ l.n)
    × (l.n ≤ 16)
    × (l.n ≡ length (held_of (lent l.run.table)))
    × (sets l.lines (13 * l.i) (lines_words (drop l.i (lines_from (held_of (lent l.run.table)) l.run.tallies))) ≡ sets l.initial.lines 0 (lines_words (lines_from (held_of (lent l.run.table)) l.run.tallies)))
