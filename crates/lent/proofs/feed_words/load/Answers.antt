use Rattle.std.specs.Prelude.{Some}
use mathlib.Core.Path.{sym, ap, ap₂, ◌∙◌}
use borrow.Author.Tests.{eq-eqb, ne_eqb, lt-ltb, le-ltb}
use native.Mathlib.Omega.{arith}
use Prim.Native.Nat.{◌^◌}
use lib.ListN.{length, get_or}
use Rattle.answers.proofs.Conditions.{was_true, was_false}
use Rattle.lent.specs.RunWords.{record_in}
use Rattle.lent.specs.FeedWords.{is_form_word, is_end, upload_with, loaded}
use Rattle.lent.proofs.SourceLaws.{held, other}
use Rattle.lent.proofs.feed_words.load.Goals as goal

pub returns-then-words-ne-WORDS : goal.returns-then-words-ne-WORDS
unfolding loaded
returns-then-words-ne-WORDS c = rw (ne_eqb (length c.args.words.now) 18 c.if-words-ne-WORDS.true)

pub returns-then-not-is_form_word : goal.returns-then-not-is_form_word
unfolding loaded
returns-then-not-is_form_word c =
    let words = c.args.words.now in
    let form = sym (ap₂ is_form_word c.word_at.ensures c.word_at-2.ensures) ∙ was_false c.is_form_word.ensures c.if-not-is_form_word.true in
    rw (eq-eqb (length words) 18 c.if-words-ne-WORDS.false, form)

pub returns-then-word_at-ge-NUMBERS : goal.returns-then-word_at-ge-NUMBERS
unfolding loaded
returns-then-word_at-ge-NUMBERS c =
    let words = c.args.words.now in
    let form = sym (ap₂ is_form_word c.word_at.ensures c.word_at-2.ensures) ∙ was_true c.is_form_word.ensures c.if-not-is_form_word.false in
    let ssrc = le-ltb (get_or words 2 0) (2 ^ 32) (omega (arith, c.word_at-3.ensures, c.if-word_at-ge-NUMBERS.true)) in
    rw (eq-eqb (length words) 18 c.if-words-ne-WORDS.false, form, ssrc)

pub returns-then-not-is_end : goal.returns-then-not-is_end
unfolding loaded
returns-then-not-is_end c =
    let words = c.args.words.now in
    let form = sym (ap₂ is_form_word c.word_at.ensures c.word_at-2.ensures) ∙ was_true c.is_form_word.ensures c.if-not-is_form_word.false in
    let ssrc = lt-ltb (get_or words 2 0) (2 ^ 32) (omega (arith, c.word_at-3.ensures, c.if-word_at-ge-NUMBERS.false)) in
    let end = sym (ap is_end c.word_at-4.ensures) ∙ was_false c.is_end.ensures c.if-not-is_end.true in
    rw (eq-eqb (length words) 18 c.if-words-ne-WORDS.false, form, ssrc, end)

pub upload_with-requires : goal.upload_with-requires
upload_with-requires c = omega (arith, c.word_at-3.ensures, c.if-word_at-ge-NUMBERS.false)

pub returns-in-Some : goal.returns-in-Some
unfolding loaded
returns-in-Some c =
    let words = c.args.words.now in
    let form = sym (ap₂ is_form_word c.word_at.ensures c.word_at-2.ensures) ∙ was_true c.is_form_word.ensures c.if-not-is_form_word.false in
    let ssrc = lt-ltb (get_or words 2 0) (2 ^ 32) (omega (arith, c.word_at-3.ensures, c.if-word_at-ge-NUMBERS.false)) in
    let end = sym (ap is_end c.word_at-4.ensures) ∙ was_true c.is_end.ensures c.if-not-is_end.false in
    let its = held (record_in words) (sym c.load.ensures ∙ c.in-Some.is) in
    rw (eq-eqb (length words) 18 c.if-words-ne-WORDS.false, form, ssrc, end, its.1) (ap Some (c.upload_with.ensures ∙ ap (upload_with words) its.2))

pub returns-in-None : goal.returns-in-None
unfolding loaded
returns-in-None c =
    let words = c.args.words.now in
    let form = sym (ap₂ is_form_word c.word_at.ensures c.word_at-2.ensures) ∙ was_true c.is_form_word.ensures c.if-not-is_form_word.false in
    let ssrc = lt-ltb (get_or words 2 0) (2 ^ 32) (omega (arith, c.word_at-3.ensures, c.if-word_at-ge-NUMBERS.false)) in
    let end = sym (ap is_end c.word_at-4.ensures) ∙ was_true c.is_end.ensures c.if-not-is_end.false in
    rw (eq-eqb (length words) 18 c.if-words-ne-WORDS.false, form, ssrc, end, other (record_in words) (sym c.load.ensures ∙ c.in-None.is))
