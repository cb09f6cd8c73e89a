use mathlib.Core.Path.{◌≡◌}
use Prim.Native.Nat.{◌+◌, ◌-◌, ◌*◌, ◌≤◌}
use lib.ListN.{drop}
use Rattle.mixed.specs.Lines.{lines_in, ssrc_in}
use Rattle.mixed.specs.Places.{place_by}
use Rattle.mixed.proofs.finding.find.Given as goal

abbrev pub invariant-loop-i : goal.invariant-loop-i
invariant-loop-i l =
    (l.i ≤ l.n) × (l.i + place_by ssrc_in l.ssrc (lines_in (l.n - l.i) (drop (13 * l.i) l.lines)) ≡ place_by ssrc_in l.ssrc (lines_in l.n l.lines))
