use mathlib.Core.Path.{◌≡◌}
use Prim.Native.Nat.{◌-◌, ◌*◌, ◌≤◌}
use lib.ListN.{drop, replicate}
use lib.Seq.{sets}
use Rattle.sources.specs.Places.{empty_place}
use Rattle.lent.specs.TableReads.{places_near}
use Rattle.lent.proofs.table_words.table_in.Given as goal

abbrev pub invariant-loop-i : goal.invariant-loop-i
invariant-loop-i l =
    (l.i ≤ l.n)
    × (l.t.count ≡ l.n)
    × (sets l.t.places l.i (places_near (l.n - l.i) (drop (11 * l.i) l.words)) ≡ sets (replicate 16 empty_place) 0 (places_near l.n l.words))
