use borrow.Author.Rules.{rules}
use mathlib.Core.Path.{refl, sym, ◌∙◌}
use lib.ListN.{length-set}
use Rattle.sources.proofs.Turns.{length-mapped}
use Rattle.sources.proofs.Tallying.{shifted_turn, shifted_done}
use Rattle.sources.proofs.stepping.shifted.Goals as goal

pub loop-i-init : goal.loop-i-init
loop-i-init c = (search (rules, length-mapped), refl)

pub loop-i-preserved : goal.loop-i-preserved
loop-i-preserved c =
    let l = c.loop-i in
    (length-set l.next l.i l.carried ∙ l.invariant.0, sym (shifted_turn l.i 16 l.carried l.next c.loop-i-test.true) ∙ l.invariant.1)

pub returns : goal.returns
returns c = let l = c.loop-i in sym (shifted_done l.i 16 l.carried l.next c.loop-i-test.false) ∙ l.invariant.1
