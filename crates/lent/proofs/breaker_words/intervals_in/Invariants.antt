use mathlib.Core.Path.{◌≡◌}
use mathlib.Core.List.{◌++◌}
use Prim.Native.Nat.{◌+◌, ◌-◌, ◌*◌, ◌≤◌}
use lib.ListN.{length, drop, take}
use Rattle.lent.specs.BreakerWords.{intervals_of}
use Rattle.lent.proofs.breaker_words.intervals_in.Given as goal

abbrev pub invariant-loop-i : goal.invariant-loop-i
invariant-loop-i l = (l.i ≤ 32) × (length l.next ≡ 32) × (take l.i l.next ++ intervals_of (32 - l.i) (drop (13 + 2 * l.i) l.words) ≡ intervals_of 32 (drop 13 l.words))
