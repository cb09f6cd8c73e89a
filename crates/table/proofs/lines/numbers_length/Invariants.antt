use mathlib.Core.Path.{◌≡◌}
use Prim.Native.Nat.{◌+◌, ◌*◌, ◌≤◌}
use lib.ListN.{length, drop}
use Rattle.table.specs.Parts.{behind_commas}
use Rattle.table.proofs.lines.numbers_length.Given as goal

abbrev pub invariant-loop-n : goal.invariant-loop-n
invariant-loop-n l = (l.count ≤ 21 * l.n-index) × (l.count + length (behind_commas (drop l.n-index l.ns)) ≡ length (behind_commas l.ns))
