use mathlib.Core.Path.{◌≡◌}
use Prim.Native.Nat.{◌+◌, ◌≤◌}
use lib.ListN.{length, drop}
use Rattle.sources.specs.Places.{held_of}
use Rattle.sources.specs.Tables.{lent}
use Rattle.lent.proofs.stream_words.held_in.Given as goal

abbrev pub invariant-loop-i : goal.invariant-loop-i
invariant-loop-i l = (l.i ≤ l.n) × (l.n ≡ length (lent l.t)) × (l.n ≤ 16) × (l.i + length (held_of (drop l.i (lent l.t))) ≡ length (held_of (lent l.t)))
