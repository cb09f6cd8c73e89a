use mathlib.Core.Path.{◌≡◌}
use mathlib.Core.Bool.{true}
use Prim.Native.Nat.{◌+◌, ◌-◌, ◌*◌, ◌≤◌}
use lib.ListN.{length, drop}
use lib.Seq.{sets}
use Rattle.format.specs.Forms.{shape_of, width, other_form}
use Rattle.trace.specs.Contents.{good_records}
use Rattle.trace.specs.Layout.{records_bytes}
use Rattle.trace.specs.Theorems.{records_in}
use Rattle.forms.proofs.moving.put_records.Given as goal

abbrev pub invariant-loop-i : goal.invariant-loop-i
invariant-loop-i l =
    (l.width ≡ width (shape_of l.form)) × (l.step ≡ width (shape_of (other_form l.form))) × (l.i ≤ l.n) × (length l.out ≡ length l.initial.out)
    × (good_records (shape_of l.form) (l.n - l.i) (drop (l.i * l.width) l.body) ≡ true)
    × (sets l.out (l.at + l.i * l.step) (records_bytes (shape_of (other_form l.form)) (records_in (shape_of l.form) (l.n - l.i) (drop (l.i * l.width) l.body)))
    ≡ sets l.initial.out l.at (records_bytes (shape_of (other_form l.form)) (records_in (shape_of l.form) l.n l.body)))
