use mathlib.Core.Path.{ap, ◌∙◌}
use native.Mathlib.Omega.{arith}
use Prim.Native.Nat.{ℕ}
use Rattle.answers.specs.Conditions.{all}
use Rattle.answers.proofs.Conditions.{was_false, was_true}
use Rattle.lent.specs.StreamWords.{are_ruled}
use Rattle.lent.proofs.StreamTaking.{outside, few, enough, unruled, unfit, fitting}
use Rattle.lent.proofs.stream_words.load.Goals as goal

pub returns-then-not-are_words : goal.returns-then-not-are_words
returns-then-not-are_words c = let a = c.args in outside a.words.now a.lines.now (was_false c.are_words.ensures c.if-not-are_words.true)

pub are_ruled-requires : goal.are_ruled-requires
are_ruled-requires c =
    let a = c.args in
    let e = was_true c.are_words.ensures c.if-not-are_words.false in
    let most = few a.words.now a.lines.now e in
    let room = enough a.words.now a.lines.now e in
    (omega (arith, most, c.word_at-n.ensures), omega (arith, room, c.word_at-n.ensures))

pub returns-then-not-are_ruled : goal.returns-then-not-are_ruled
returns-then-not-are_ruled c =
    let a = c.args in
    let ws = a.lines.now in
    let e = was_true c.are_words.ensures c.if-not-are_words.false in
    unruled a.words.now ws e (was_false (c.are_ruled.ensures ∙ ap (λ (n : ℕ). all (are_ruled n ws)) c.word_at-n.ensures) c.if-not-are_ruled.true)

pub are_fit-requires : goal.are_fit-requires
are_fit-requires c =
    let a = c.args in
    let e = was_true c.are_words.ensures c.if-not-are_words.false in
    let most = few a.words.now a.lines.now e in
    let room = enough a.words.now a.lines.now e in
    (c.word_at-n.ensures, omega (arith, most, c.word_at-n.ensures), omega (arith, room, c.word_at-n.ensures))

pub returns-then-not-are_fit : goal.returns-then-not-are_fit
returns-then-not-are_fit c =
    let a = c.args in
    let ws = a.lines.now in
    let e = was_true c.are_words.ensures c.if-not-are_words.false in
    let r = was_true (c.are_ruled.ensures ∙ ap (λ (n : ℕ). all (are_ruled n ws)) c.word_at-n.ensures) c.if-not-are_ruled.false in
    unfit a.words.now ws e r (was_false c.are_fit.ensures c.if-not-are_fit.true)

pub run_in-requires : goal.run_in-requires
run_in-requires c =
    let a = c.args in
    let e = was_true c.are_words.ensures c.if-not-are_words.false in
    let most = few a.words.now a.lines.now e in
    let room = enough a.words.now a.lines.now e in
    (c.word_at-n.ensures, omega (arith, most, c.word_at-n.ensures), omega (arith, room, c.word_at-n.ensures), was_true c.are_fit.ensures c.if-not-are_fit.false)

pub returns : goal.returns
returns c =
    let a = c.args in
    let ws = a.lines.now in
    let e = was_true c.are_words.ensures c.if-not-are_words.false in
    let r = was_true (c.are_ruled.ensures ∙ ap (λ (n : ℕ). all (are_ruled n ws)) c.word_at-n.ensures) c.if-not-are_ruled.false in
    fitting a.words.now ws e r (was_true c.are_fit.ensures c.if-not-are_fit.false) c.run_in.ensures
