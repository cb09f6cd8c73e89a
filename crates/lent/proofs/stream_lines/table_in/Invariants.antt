use mathlib.Core.Path.{◌≡◌}
use Prim.Native.Nat.{◌-◌, ◌*◌, ◌≤◌}
use lib.ListN.{drop, replicate}
use lib.Seq.{sets}
use Rattle.sources.specs.Places.{empty_place}
use Rattle.lent.specs.StreamWords.{each_line, place_in}
use Rattle.lent.proofs.stream_lines.table_in.Given as goal

abbrev pub invariant-loop-i : goal.invariant-loop-i
invariant-loop-i l =
    (l.i ≤ l.n)
    × (l.t.count ≡ 16)
    × (sets l.t.places l.i (each_line place_in (l.n - l.i) (drop (13 * l.i) l.lines)) ≡ sets (replicate 16 empty_place) 0 (each_line place_in l.n l.lines))

abbrev pub decreases-loop-i : goal.decreases-loop-i
decreases-loop-i l = l.n - l.i
