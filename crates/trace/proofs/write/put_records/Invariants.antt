use Rattle.std.proofs.Common.{◌≡◌, ◌+◌, ◌-◌, ◌*◌, ◌≤◌, length, drop}
use lib.Seq.{sets}
use Rattle.format.specs.Forms.{shape_of, width}
use Rattle.trace.specs.Layout.{records_bytes}
use Rattle.trace.specs.Writing.{records_of}
use Rattle.trace.proofs.write.put_records.Given as goal

abbrev pub invariant-loop-i : goal.invariant-loop-i
invariant-loop-i l =
    (l.i ≤ length l.times) × (l.at ≡ 8 + l.i * width (shape_of l.form)) × (length l.out ≡ length l.initial.out)
    × (sets l.out l.at (records_bytes (shape_of l.form) (records_of (drop l.i l.times) (drop l.i l.numbers) (drop l.i l.marks))) ≡ sets l.initial.out 8 (records_bytes (shape_of l.form) (records_of l.times l.numbers l.marks)))

abbrev pub decreases-loop-i : goal.decreases-loop-i
decreases-loop-i l = length l.times - l.i
