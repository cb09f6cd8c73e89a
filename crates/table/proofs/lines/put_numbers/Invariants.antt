use mathlib.Core.Path.{◌≡◌}
use Prim.Native.Nat.{◌+◌, ◌-◌}
use lib.ListN.{length, drop}
use lib.Seq.{sets}
use Rattle.table.specs.Parts.{behind_commas}
use Rattle.table.proofs.lines.put_numbers.Given as goal

abbrev pub invariant-loop-n : goal.invariant-loop-n
invariant-loop-n l =
    let behind = drop (length l.ns - length l.yielded) l.ns in
    (l.place + length (behind_commas behind) ≡ l.end) × (length l.out ≡ length l.initial.out) × (l.out ≡ sets l.initial.out l.place (behind_commas behind))
