use mathlib.Core.Path.{◌≡◌}
use Prim.Native.Nat.{◌-◌, ◌*◌, ◌≤◌}
use lib.ListN.{drop, replicate}
use lib.Seq.{sets}
use Rattle.sources.specs.Tallies.{no_tally}
use Rattle.lent.specs.StreamWords.{each_line, tally_in}
use Rattle.lent.proofs.stream_lines.tallies_in.Given as goal

abbrev pub invariant-loop-i : goal.invariant-loop-i
invariant-loop-i l = (l.i ≤ l.n) × (sets l.tallies l.i (each_line tally_in (l.n - l.i) (drop (13 * l.i) l.lines)) ≡ sets (replicate 16 no_tally) 0 (each_line tally_in l.n l.lines))

abbrev pub decreases-loop-i : goal.decreases-loop-i
decreases-loop-i l = l.n - l.i
