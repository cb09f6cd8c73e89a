use Rattle.std.specs.Prelude.{Some}
use mathlib.Core.Path.{sym, ap, ◌∙◌}
use borrow.Author.Tests.{eq-eqb, ne_eqb, lt-ltb, le-ltb}
use native.Mathlib.Omega.{arith}
use Prim.Native.Nat.{◌^◌}
use lib.ListN.{length, get_or}
use Rattle.answers.proofs.Conditions.{was_true, was_false}
use Rattle.lent.specs.FormWords.{is_form, form_of}
use Rattle.lent.specs.ConversionWords.{loaded}
use Rattle.lent.proofs.conversion_words.load.Goals as goal

pub returns-then-words-ne-WORDS : goal.returns-then-words-ne-WORDS
unfolding loaded
returns-then-words-ne-WORDS c = rw (ne_eqb (length c.args.words.now) 3 c.if-words-ne-WORDS.true)

pub returns-then-not-is_form : goal.returns-then-not-is_form
unfolding loaded
returns-then-not-is_form c =
    let words = c.args.words.now in
    let form = sym (ap is_form c.word_at-number.ensures) ∙ was_false c.is_form.ensures c.if-not-is_form.true in
    rw (eq-eqb (length words) 3 c.if-words-ne-WORDS.false, form)

pub returns-then-ssrc-ge-NUMBERS : goal.returns-then-ssrc-ge-NUMBERS
unfolding loaded
returns-then-ssrc-ge-NUMBERS c =
    let words = c.args.words.now in
    let form = sym (ap is_form c.word_at-number.ensures) ∙ was_true c.is_form.ensures c.if-not-is_form.false in
    let ssrc = le-ltb (get_or words 1 0) (2 ^ 32) (omega (arith, c.word_at-ssrc.ensures, c.if-ssrc-ge-NUMBERS.true)) in
    rw (eq-eqb (length words) 3 c.if-words-ne-WORDS.false, form, ssrc)

pub returns : goal.returns
unfolding loaded
returns c =
    let words = c.args.words.now in
    let number = c.word_at-number.ensures in
    let form = sym (ap is_form number) ∙ was_true c.is_form.ensures c.if-not-is_form.false in
    let its = c.word_at-ssrc.ensures in
    let ssrc = lt-ltb (get_or words 1 0) (2 ^ 32) (omega (arith, its, c.if-ssrc-ge-NUMBERS.false)) in
    rw (eq-eqb (length words) 3 c.if-words-ne-WORDS.false, form, ssrc)
    (ap Some (λ i. record { form = (c.form_of-form.ensures ∙ ap form_of number) i; ssrc = its i; held = c.word_at-held.ensures i }))
