use borrow.Author.Rules.{rules}
use mathlib.Core.Path.{refl, sym, ◌∙◌}
use Rattle.sdp.specs.Steps.{spelled}
use Rattle.sdp.proofs.Spelling.{same_goes, same_stops, same_ends, long_not}
use Rattle.sdp.proofs.steps.is_spelled.Goals as goal

pub returns-then-s-text : goal.returns-then-s-text
returns-then-s-text c = long_not _ _ c.if-s-text.true

pub loop-i-init : goal.loop-i-init
unfolding spelled
loop-i-init c = (search rules, c.if-s-text.false, refl)

pub returns-then-lower-text : goal.returns-then-lower-text
returns-then-lower-text c =
    let loop = c.loop-i in
    let a = c.args in
    same_stops a.text.now a.s.now loop.i (search rules) (search rules) (λ e. c.if-lower-text.true (c.lower.ensures ∙ e)) ∙ loop.invariant.2

pub loop-i-preserved : goal.loop-i-preserved
loop-i-preserved c =
    let loop = c.loop-i in
    let a = c.args in (
      search rules,
      loop.invariant.1,
      same_goes a.text.now a.s.now loop.i (search rules) (search rules) (sym c.lower.ensures ∙ c.if-lower-text.false) ∙ loop.invariant.2,
    )

pub returns : goal.returns
returns c =
    let a = c.args in
    same_ends a.text.now a.s.now c.loop-i.i (search rules) (search rules) ∙ c.loop-i.invariant.2
