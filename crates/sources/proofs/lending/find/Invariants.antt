use mathlib.Core.Path.{◌≡◌}
use Prim.Native.Nat.{ℕ, ◌-◌, ◌≤◌}
use mathlib.Core.List.{List}
use lib.ListN.{length, drop, take}
use Rattle.sources.specs.declared.Place.{Place}
use Rattle.sources.specs.declared.finding.Seen.{Seen}
use Rattle.sources.specs.Seeing.{seen_from}
use Rattle.sources.proofs.lending.find.Given as goal

pub record Seeing (ps : List Place) (ssrc n i : ℕ) (begun seen : Seen) : Type 0 where
  pub within : n ≤ length ps
  pub few : n ≤ 16
  pub left : seen_from ssrc seen i (drop i (take n ps)) ≡ seen_from ssrc begun 0 (take n ps)

abbrev pub invariant-loop-i : goal.invariant-loop-i
invariant-loop-i l = Seeing l.places l.ssrc l.n l.i l.initial.seen l.seen

abbrev pub decreases-loop-i : goal.decreases-loop-i
decreases-loop-i l = l.n - l.i
