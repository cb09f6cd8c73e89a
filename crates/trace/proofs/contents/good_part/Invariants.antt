use Rattle.std.proofs.Common.{◌≡◌, ◌+◌, ◌*◌, ◌/◌, ◌≤◌, ◌&&◌, eqb, length, drop}
use Rattle.format.specs.Forms.{Shape, width}
use Rattle.trace.specs.Contents.{good_records}
use Rattle.trace.proofs.contents.good_part.Given as goal

abbrev pub invariant-loop-left : goal.invariant-loop-left
invariant-loop-left l =
    (l.at + l.left * l.step ≤ length l.body)
    × ((shape : Shape) → l.step ≡ width shape → (eqb (l.seen / 4) 0 && good_records shape l.left (drop l.at l.body)) ≡ good_records shape l.n l.body)

abbrev pub decreases-loop-left : goal.decreases-loop-left
decreases-loop-left l = l.left
