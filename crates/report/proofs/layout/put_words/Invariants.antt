use mathlib.Core.Path.{◌≡◌}
use Prim.Native.Nat.{◌*◌}
use lib.ListN.{length, drop}
use lib.Seq.{sets}
use Rattle.report.specs.Reports.{words_bytes}
use Rattle.report.proofs.layout.put_words.Given as goal

abbrev pub invariant-loop-i : goal.invariant-loop-i
invariant-loop-i l =
    (length l.out ≡ length l.initial.out)
    × (sets l.out (4 * l.i) (words_bytes (drop l.i l.words)) ≡ sets l.initial.out 0 (words_bytes l.words))
