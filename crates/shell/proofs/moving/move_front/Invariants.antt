use mathlib.Core.Path.{◌≡◌}
use Prim.Native.Nat.{◌-◌, ◌≤◌}
use lib.ListN.{length, take, drop}
use lib.Seq.{sets}
use Rattle.shell.proofs.moving.move_front.Given as goal

abbrev pub invariant-loop-i : goal.invariant-loop-i
invariant-loop-i l =
    (l.i ≤ l.to - l.from) × (length l.buffer ≡ length l.initial.buffer) × (drop l.i l.buffer ≡ drop l.i l.initial.buffer)
    × (sets l.buffer l.i (drop l.i (take (l.to - l.from) (drop l.from l.initial.buffer))) ≡ sets l.initial.buffer 0 (take (l.to - l.from) (drop l.from l.initial.buffer)))

abbrev pub decreases-loop-i : goal.decreases-loop-i
decreases-loop-i l = l.to - l.from - l.i
