use mathlib.Core.Path.{◌≡◌}
use Prim.Native.Nat.{◌≤◌}
use lib.ListN.{drop}
use Rattle.answers.specs.Conditions.{all}
use Rattle.lent.specs.AttributeWords.{places_fit}
use Rattle.lent.proofs.attribute_words.places_fit.Given as goal

abbrev pub invariant-loop-i : goal.invariant-loop-i
invariant-loop-i l = (l.i ≤ 8) × (all (drop l.i (places_fit l.words)) ≡ all (places_fit l.words))
