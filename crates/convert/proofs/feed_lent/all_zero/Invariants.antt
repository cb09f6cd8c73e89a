use mathlib.Core.Path.{◌≡◌}
use Prim.Native.Nat.{ℕ, ◌+◌, ◌*◌, ◌≤◌}
use lib.ListN.{length, drop}
use Rattle.trace.proofs.Tallies.{tally}
use Rattle.convert.proofs.feed_lent.all_zero.Given as goal

abbrev pub invariant-loop-b : goal.invariant-loop-b
invariant-loop-b l = (l.b-index ≤ length l.s) × (l.sum ≤ 255 * l.b-index) × (l.sum + tally (λ (c : ℕ). c) (drop l.b-index l.s) ≡ tally (λ (c : ℕ). c) l.s)
