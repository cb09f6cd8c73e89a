use Rattle.std.specs.Prelude.{Some}
use mathlib.Core.Path.{ap, ◌∙◌}
use borrow.Author.Tests.{eq-eqb, ne_eqb, le-leb, lt-leb}
use native.Mathlib.Omega.{arith}
use lib.ListN.{length, get_or}
use Rattle.lent.specs.SourceWords.{remembered_in, source_with, loaded}
use Rattle.lent.proofs.source_words.load.Goals as goal

pub returns-then-words-ne-WORDS : goal.returns-then-words-ne-WORDS
unfolding loaded
returns-then-words-ne-WORDS c = rw (ne_eqb (length c.args.words.now) 10 c.if-words-ne-WORDS.true)

pub returns-then-last-gt-MOST_REMEMBERED : goal.returns-then-last-gt-MOST_REMEMBERED
unfolding loaded
returns-then-last-gt-MOST_REMEMBERED c =
    let words = c.args.words.now in
    rw (eq-eqb (length words) 10 c.if-words-ne-WORDS.false, lt-leb (get_or words 9 0) 65536 (omega (arith, c.word_at-last.ensures, c.if-last-gt-MOST_REMEMBERED.true)))

pub returns : goal.returns
unfolding loaded
returns c =
    let words = c.args.words.now in
    let last = c.word_at-last.ensures in
    rw (eq-eqb (length words) 10 c.if-words-ne-WORDS.false, le-leb (get_or words 9 0) 65536 (omega (arith, last, c.if-last-gt-MOST_REMEMBERED.false)))
    (ap Some (c.source_with.ensures ∙ ap (source_with words) (c.remembered_in.ensures ∙ ap remembered_in last)))
