use native.Mathlib.Omega.{arith}
use mathlib.Core.Path.{◌∙◌}
use lib.ListN.{get_or}
use Rattle.between.specs.PacketCalls.{counters_given}
use Prim.Native.Nat.{◌^◌}
use borrow.Author.Tests.{ltb-true}
use Rattle.answers.proofs.Conditions.{all_true}
use Rattle.lent.specs.Widths.{counts_fit}
use Rattle.lent.proofs.compound_words.counts_of.Goals as goal

pub overflow_cast-marked : goal.overflow_cast-marked
overflow_cast-marked c =
    let a = c.args in
    omega (arith, c.word_at-marked.ensures, ltb-true (get_or a.words.now a.ce 0) (2 ^ 16) (all_true (counts_fit a.words.now a.ce a.lost) 0 c.requires))

pub overflow_cast-missing : goal.overflow_cast-missing
overflow_cast-missing c =
    let a = c.args in
    omega (arith, c.word_at-missing.ensures, ltb-true (get_or a.words.now a.lost 0) (2 ^ 16) (all_true (counts_fit a.words.now a.ce a.lost) 1 c.requires))

pub returns : goal.returns
returns c = c.counters_of.ensures ∙ (λ i. counters_given (c.word_at-marked.ensures i) (c.word_at-missing.ensures i))
