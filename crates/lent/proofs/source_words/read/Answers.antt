use mathlib.Core.Path.{◌≡◌, ap, ◌∙◌}
use native.Mathlib.Omega.{arith}
use Prim.Native.Nat.{min}
use lib.ListN.{get_or}
use Rattle.lent.specs.SourceWords.{remembered_in, source_with}
use Rattle.lent.proofs.source_words.read.Goals as goal

pub returns-then-last-le-MOST_REMEMBERED : goal.returns-then-last-le-MOST_REMEMBERED
returns-then-last-le-MOST_REMEMBERED c =
    let words = c.args.words.now in
    let last = c.word_at-last.ensures in
    let e : c.word_at-last.result ≡ min (get_or words 9 0) 65536 = omega (arith, last, c.if-last-le-MOST_REMEMBERED.true) in
    c.source_with.ensures ∙ ap (source_with words) (c.remembered_in.ensures ∙ ap remembered_in e)

pub remembered_in-requires-2 : goal.remembered_in-requires-2
remembered_in-requires-2 c = omega arith

pub returns : goal.returns
returns c =
    let words = c.args.words.now in
    let e : 65536 ≡ min (get_or words 9 0) 65536 = omega (arith, c.word_at-last.ensures, c.if-last-le-MOST_REMEMBERED.false) in
    c.source_with-2.ensures ∙ ap (source_with words) (c.remembered_in-2.ensures ∙ ap remembered_in e)
