use Rattle.std.specs.Prelude.{Some}
use mathlib.Core.Path.{sym, ap, ◌∙◌}
use borrow.Author.Tests.{eq-eqb, ne_eqb, lt-ltb, le-ltb}
use native.Mathlib.Omega.{arith}
use Prim.Native.Nat.{◌^◌}
use lib.ListN.{length, get_or}
use Rattle.answers.proofs.Conditions.{was_true, was_false}
use Rattle.lent.specs.FormWords.{is_form}
use Rattle.lent.specs.RunWords.{record_in, run_with, loaded}
use Rattle.lent.proofs.SourceLaws.{held, other}
use Rattle.lent.proofs.run_words.load.Goals as goal

pub returns-then-words-ne-WORDS : goal.returns-then-words-ne-WORDS
unfolding loaded
returns-then-words-ne-WORDS c = rw (ne_eqb (length c.args.words.now) 15 c.if-words-ne-WORDS.true)

pub returns-then-not-is_form : goal.returns-then-not-is_form
unfolding loaded
returns-then-not-is_form c =
    let words = c.args.words.now in
    let form = sym (ap is_form c.word_at.ensures) ∙ was_false c.is_form.ensures c.if-not-is_form.true in
    rw (eq-eqb (length words) 15 c.if-words-ne-WORDS.false, form)

pub returns-then-word_at-ge-NUMBERS : goal.returns-then-word_at-ge-NUMBERS
unfolding loaded
returns-then-word_at-ge-NUMBERS c =
    let words = c.args.words.now in
    let form = sym (ap is_form c.word_at.ensures) ∙ was_true c.is_form.ensures c.if-not-is_form.false in
    let ssrc = le-ltb (get_or words 2 0) (2 ^ 32) (omega (arith, c.word_at-2.ensures, c.if-word_at-ge-NUMBERS.true)) in
    rw (eq-eqb (length words) 15 c.if-words-ne-WORDS.false, form, ssrc)

pub run_with-requires : goal.run_with-requires
run_with-requires c = omega (arith, c.word_at-2.ensures, c.if-word_at-ge-NUMBERS.false)

pub returns-in-Some : goal.returns-in-Some
unfolding loaded
returns-in-Some c =
    let words = c.args.words.now in
    let form = sym (ap is_form c.word_at.ensures) ∙ was_true c.is_form.ensures c.if-not-is_form.false in
    let ssrc = lt-ltb (get_or words 2 0) (2 ^ 32) (omega (arith, c.word_at-2.ensures, c.if-word_at-ge-NUMBERS.false)) in
    let its = held (record_in words) (sym c.load.ensures ∙ c.in-Some.is) in
    rw (eq-eqb (length words) 15 c.if-words-ne-WORDS.false, form, ssrc, its.1) (ap Some (c.run_with.ensures ∙ ap (run_with words) its.2))

pub returns-in-None : goal.returns-in-None
unfolding loaded
returns-in-None c =
    let words = c.args.words.now in
    let form = sym (ap is_form c.word_at.ensures) ∙ was_true c.is_form.ensures c.if-not-is_form.false in
    let ssrc = lt-ltb (get_or words 2 0) (2 ^ 32) (omega (arith, c.word_at-2.ensures, c.if-word_at-ge-NUMBERS.false)) in
    rw (eq-eqb (length words) 15 c.if-words-ne-WORDS.false, form, ssrc, other (record_in words) (sym c.load.ensures ∙ c.in-None.is))
