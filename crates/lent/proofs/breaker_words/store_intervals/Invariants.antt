use mathlib.Core.Path.{◌≡◌}
use Prim.Native.Nat.{◌+◌, ◌*◌, ◌≤◌}
use lib.ListN.{length, drop}
use lib.Seq.{sets}
use Rattle.lent.specs.BreakerWords.{interval_words}
use Rattle.lent.proofs.breaker_words.store_intervals.Given as goal

abbrev pub invariant-loop-i : goal.invariant-loop-i
invariant-loop-i l = (length l.words ≡ length l.initial.words) × (l.i ≤ 32) × (length l.xs ≡ 32) × (sets l.words (13 + 2 * l.i) (interval_words (drop l.i l.xs)) ≡ sets l.initial.words 13 (interval_words l.xs))
