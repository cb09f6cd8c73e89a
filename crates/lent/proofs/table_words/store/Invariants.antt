use mathlib.Core.Path.{◌≡◌}
use Prim.Native.Nat.{◌*◌, ◌≤◌}
use lib.ListN.{length, drop}
use lib.Seq.{sets}
use Rattle.sources.specs.Tables.{lent}
use Rattle.lent.specs.TableWords.{table_words}
use Rattle.lent.proofs.table_words.store.Given as goal

abbrev pub invariant-loop-i : goal.invariant-loop-i
invariant-loop-i l =
    (length l.words ≡ length l.initial.words)
    × (l.n ≤ 16)
    × (l.n ≡ length (lent l.t))
    × (sets l.words (11 * l.i) (table_words (drop l.i (lent l.t))) ≡ sets l.initial.words 0 (table_words (lent l.t)))
