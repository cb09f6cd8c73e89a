use native.Mathlib.Omega.{arith}
use Prim.Native.Nat.{ℕ, ◌^◌, ◌<◌}
use mathlib.Core.Path.{◌≡◌}
use mathlib.Core.Bool.{true}
use mathlib.Core.List.{List}
use lib.ListN.{get_or}
use borrow.Author.Tests.{ltb-true}
use Rattle.answers.specs.Conditions.{all}
use Rattle.answers.proofs.Conditions.{all_true}
use Rattle.lent.specs.KeptWords.{numbers_fit}
use Rattle.lent.proofs.kept_words.kept_in.Goals as goal

module _ (ws : List ℕ) (h : all (numbers_fit ws) ≡ true) where
  highest : get_or ws 1 0 < 2 ^ 32
  highest = ltb-true (get_or ws 1 0) (2 ^ 32) (all_true (numbers_fit ws) 0 h)

  ce : get_or ws 2 0 < 2 ^ 16
  ce = ltb-true (get_or ws 2 0) (2 ^ 16) (all_true (numbers_fit ws) 1 h)

  lost : get_or ws 3 0 < 2 ^ 16
  lost = ltb-true (get_or ws 3 0) (2 ^ 16) (all_true (numbers_fit ws) 2 h)

pub overflow_cast-result : goal.overflow_cast-result
overflow_cast-result c = omega (arith, c.word_at-highest.ensures, highest c.args.words.now c.requires)

pub overflow_cast-result-2 : goal.overflow_cast-result-2
overflow_cast-result-2 c = omega (arith, c.word_at-ce.ensures, ce c.args.words.now c.requires)

pub overflow_cast-result-3 : goal.overflow_cast-result-3
overflow_cast-result-3 c = omega (arith, c.word_at-lost.ensures, lost c.args.words.now c.requires)

pub returns : goal.returns
returns c = λ i. record { highest = c.word_at-highest.ensures i; ce = c.word_at-ce.ensures i; lost = c.word_at-lost.ensures i }
