use mathlib.Core.Path.{◌≡◌}
use mathlib.Core.Bool.{◌&&◌}
use Prim.Native.Nat.{◌-◌, ◌*◌, ◌≤◌}
use lib.Dec.{eqb}
use lib.ListN.{drop}
use Rattle.format.specs.Forms.{shape_of}
use Rattle.format.specs.declared.Form.TheVariants.{One, Two}
use Rattle.trace.specs.Theorems.{records_in}
use Rattle.forms.specs.Conversions.{all_times}
use Rattle.forms.proofs.moving.all_short.Given as goal

abbrev pub invariant-loop-i : goal.invariant-loop-i
invariant-loop-i l =
    (l.i ≤ l.n) × (l.sum ≤ 65535 * l.i)
    × ((eqb l.sum 0 && all_times (shape_of One) (records_in (shape_of Two) (l.n - l.i) (drop (10 * l.i) l.body))) ≡ all_times (shape_of One) (records_in (shape_of Two) l.n l.body))
