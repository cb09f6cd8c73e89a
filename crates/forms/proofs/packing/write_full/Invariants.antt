use mathlib.Core.Path.{◌≡◌}
use Prim.Native.Nat.{◌-◌, ◌*◌, ◌≤◌}
use lib.ListN.{length, drop}
use lib.Seq.{sets}
use Rattle.format.specs.Forms.{shape_of, other_form}
use Rattle.forms.specs.Packing.{full_blocks}
use Rattle.forms.specs.Steps.{Joinable, joined}
use Rattle.forms.proofs.packing.write_full.Given as goal

abbrev pub invariant-loop-i : goal.invariant-loop-i
invariant-loop-i l =
    (l.i ≤ l.n) × (l.first ≤ (shape_of (other_form l.form)).most)
    × Joinable l.form l.first l.part ((l.n - l.i) * (shape_of (other_form l.form)).most - l.first) (drop l.from l.body)
    × (l.from ≤ length l.body) × (length l.out ≡ length l.initial.out)
    × (sets l.out (l.i * 512) (full_blocks (shape_of (other_form l.form)) l.ssrc (l.n - l.i) (joined l.form l.first l.part ((l.n - l.i) * (shape_of (other_form l.form)).most - l.first) (drop l.from l.body)))
    ≡ sets l.initial.out 0 (full_blocks (shape_of (other_form l.form)) l.ssrc l.n (joined l.form l.held l.part (l.n * (shape_of (other_form l.form)).most - l.held) l.body)))
