use mathlib.Core.Path.{refl, ◌∙◌}
use Rattle.report.proofs.Layouts.{words_turn, words_end}
use Rattle.report.proofs.layout.put_words.Goals as goal

pub loop-i-init : goal.loop-i-init
loop-i-init c = (refl, refl)

pub loop-i-preserved : goal.loop-i-preserved
loop-i-preserved c =
    let l = c.loop-i in
    let words = c.args.words.now in
    (c.write32.auto.out ∙ l.invariant.0, words_turn words l.i l.out c.loop-i-test.true c.write32.ensures ∙ l.invariant.1)

pub shape_of-out : goal.shape_of-out
shape_of-out c = c.loop-i.invariant.0

pub returns : goal.returns
returns c =
    let l = c.loop-i in
    words_end c.args.words.now l.i l.out c.loop-i-test.false ∙ l.invariant.1
