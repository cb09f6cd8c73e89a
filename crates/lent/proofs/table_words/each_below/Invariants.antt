use mathlib.Core.Path.{◌≡◌}
use Prim.Native.Nat.{◌-◌, ◌*◌}
use lib.ListN.{drop}
use Rattle.lent.specs.TableWords.{each_below}
use Rattle.lent.proofs.table_words.each_below.Given as goal

abbrev pub invariant-loop-i : goal.invariant-loop-i
invariant-loop-i l = each_below l.limit l.k (l.n - l.i) (drop (11 * l.i) l.words) ≡ each_below l.limit l.k l.n l.words
