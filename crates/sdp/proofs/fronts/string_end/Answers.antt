use borrow.Author.Rules.{rules}
use mathlib.Core.Path.{refl, sym, ◌∙◌}
use native.Mathlib.Omega.{arith}
use borrow.Author.Tests.{ne_eqb}
use lib.ListN.{length}
use Rattle.sdp.proofs.Tokens.{qd_most, closing_quoted, closing_none, closing_goes, closing_past}
use Rattle.sdp.proofs.fronts.string_end.Goals as goal

pub loop-at-init : goal.loop-at-init
loop-at-init c = record { left = length c.args.line.now; enough = omega arith; same = refl }

pub returns-then-line-at-eq34 : goal.returns-then-line-at-eq34
returns-then-line-at-eq34 c = closing_quoted _ _ c.loop-at.invariant (search rules) c.if-line-at-eq34.true

pub returns-then-n-eq0 : goal.returns-then-n-eq0
returns-then-n-eq0 c =
    closing_none _ _ c.loop-at.invariant (search rules) (ne_eqb _ _ c.if-line-at-eq34.false) (sym c.qd_length-n.ensures ∙ c.if-n-eq0.true)

pub overflow_add-at : goal.overflow_add-at
overflow_add-at c = omega (arith, qd_most c.args.line.now c.loop-at.at)

pub loop-at-smaller : goal.loop-at-smaller
loop-at-smaller c = omega arith

pub loop-at-preserved : goal.loop-at-preserved
loop-at-preserved c =
    closing_goes _ _ c.loop-at.invariant (search rules) _ (ne_eqb _ _ c.if-line-at-eq34.false) c.qd_length-n.ensures (ne_eqb _ _ c.if-n-eq0.false)

pub returns : goal.returns
returns c = closing_past _ _ c.loop-at.invariant (search rules)
