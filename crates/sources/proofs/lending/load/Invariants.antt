use mathlib.Core.Path.{◌≡◌}
use mathlib.Core.List.{List}
use Prim.Native.Nat.{ℕ, ◌-◌, ◌≤◌}
use lib.ListN.{length, drop, take, replicate}
use lib.Seq.{sets}
use Rattle.sources.specs.declared.Place.{Place}
use Rattle.sources.specs.declared.Table.{Table}
use Rattle.sources.specs.Places.{empty_place}
use Rattle.sources.proofs.lending.load.Given as goal

pub record Taking (ps : List Place) (n i : ℕ) (t : Table) : Type 0 where
  pub within : n ≤ length ps
  pub few : n ≤ 16
  pub count : t.count ≡ length ps
  pub left : sets t.places i (drop i (take n ps)) ≡ sets (replicate 16 empty_place) 0 (take n ps)

abbrev pub invariant-loop-i : goal.invariant-loop-i
invariant-loop-i l = Taking l.places l.n l.i l.t

abbrev pub decreases-loop-i : goal.decreases-loop-i
decreases-loop-i l = l.n - l.i
