use native.Mathlib.Omega.{arith}
use Rattle.sdp.proofs.Turns.{token_fits, method_none, method_some}
use Rattle.sdp.proofs.steps.method_step.Goals as goal

pub returns-then-end-at : goal.returns-then-end-at
returns-then-end-at c =
    method_none _ _ c.requires.1 c.token_end-end.ensures c.if-end-at.true c.no_step.ensures

pub slice_bounds-method_item-end : goal.slice_bounds-method_item-end
slice_bounds-method_item-end c =
    omega (arith, token_fits c.args.line.now c.args.at c.requires.1, c.token_end-end.ensures)

pub returns : goal.returns
returns c =
    method_some _ _ c.requires.1 c.token_end-end.ensures c.if-end-at.false c.method_item.ensures
    c.behind_method.ensures
