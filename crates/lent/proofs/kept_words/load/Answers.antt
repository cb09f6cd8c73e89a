use Rattle.std.specs.Prelude.{Some}
use mathlib.Core.Path.{sym, ap, ◌∙◌}
use borrow.Author.Tests.{eq-eqb, ne_eqb}
use lib.Dec.{eqb}
use lib.ListN.{length}
use Prim.Native.Nat.{ℕ}
use Rattle.answers.proofs.Conditions.{was_true, was_false}
use Rattle.between.specs.declared.calls.Kept.{Kept}
use Rattle.lent.specs.KeptWords.{loaded}
use Rattle.lent.proofs.kept_words.load.Goals as goal

pub returns-then-words-ne-WORDS : goal.returns-then-words-ne-WORDS
unfolding loaded
returns-then-words-ne-WORDS c = rw (ne_eqb (length c.args.words.now) 4 c.if-words-ne-WORDS.true)

pub returns-then-not-do_fit : goal.returns-then-not-do_fit
unfolding loaded
returns-then-not-do_fit c =
    let words = c.args.words.now in
    let there = ap (λ (n : ℕ). eqb n 1) (sym c.word_at.ensures) ∙ eq-eqb c.word_at.result 1 c.if-word_at-eq1.true in
    rw (eq-eqb (length words) 4 c.if-words-ne-WORDS.false, there, was_false c.do_fit.ensures c.if-not-do_fit.true)

pub kept_in-kept-requires : goal.kept_in-kept-requires
kept_in-kept-requires c = was_true c.do_fit.ensures c.if-not-do_fit.false

pub returns-then-word_at-eq1 : goal.returns-then-word_at-eq1
unfolding loaded
returns-then-word_at-eq1 c =
    let words = c.args.words.now in
    let there = ap (λ (n : ℕ). eqb n 1) (sym c.word_at.ensures) ∙ eq-eqb c.word_at.result 1 c.if-word_at-eq1.true in
    rw (eq-eqb (length words) 4 c.if-words-ne-WORDS.false, there, was_true c.do_fit.ensures c.if-not-do_fit.false)
    (ap (λ (k : Kept). Some (Some k)) c.kept_in-kept.ensures)

pub returns-then-not-are_zero : goal.returns-then-not-are_zero
unfolding loaded
returns-then-not-are_zero c =
    let words = c.args.words.now in
    let there = ap (λ (n : ℕ). eqb n 1) (sym c.word_at.ensures) ∙ ne_eqb c.word_at.result 1 c.if-word_at-eq1.false in
    rw (eq-eqb (length words) 4 c.if-words-ne-WORDS.false, there, was_false c.are_zero.ensures c.if-not-are_zero.true)

pub returns : goal.returns
unfolding loaded
returns c =
    let words = c.args.words.now in
    let there = ap (λ (n : ℕ). eqb n 1) (sym c.word_at.ensures) ∙ ne_eqb c.word_at.result 1 c.if-word_at-eq1.false in
    rw (eq-eqb (length words) 4 c.if-words-ne-WORDS.false, there, was_true c.are_zero.ensures c.if-not-are_zero.false)
