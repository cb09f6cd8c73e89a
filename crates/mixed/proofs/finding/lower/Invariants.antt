use mathlib.Core.Path.{◌≡◌}
use Prim.Native.Nat.{◌+◌, ◌-◌, ◌*◌, ◌≤◌}
use lib.ListN.{drop}
use Rattle.mixed.specs.Lines.{lines_in, ssrc_in}
use Rattle.mixed.specs.Places.{lower_by}
use Rattle.mixed.proofs.finding.lower.Given as goal

abbrev pub invariant-loop-i : goal.invariant-loop-i
invariant-loop-i l =
    (l.i ≤ l.n) × (l.i + lower_by ssrc_in l.ssrc (lines_in (l.n - l.i) (drop (13 * l.i) l.lines)) ≡ lower_by ssrc_in l.ssrc (lines_in l.n l.lines))
