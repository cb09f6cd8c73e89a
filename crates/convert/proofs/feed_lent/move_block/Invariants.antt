use mathlib.Core.Path.{◌≡◌}
use Prim.Native.Nat.{◌≤◌}
use lib.ListN.{length, drop}
use lib.Seq.{sets}
use Rattle.convert.specs.Feeds.{part_in}
use Rattle.convert.proofs.feed_lent.move_block.Given as goal

abbrev pub invariant-loop-i : goal.invariant-loop-i
invariant-loop-i l =
    (l.i ≤ 512) × (length l.lent ≡ length l.initial.lent) × (drop 512 l.lent ≡ drop 512 l.initial.lent) × (sets l.lent l.i (drop l.i (part_in l.initial.lent)) ≡ sets l.initial.lent 0 (part_in l.initial.lent))
