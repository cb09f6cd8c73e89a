use Rattle.std.proofs.Common.{arith}
use lib.ListN.{length-take}
use borrow.Author.Tests.{eq-eqb}
use Rattle.answers.proofs.Conditions.{cond_ends}
use Rattle.sdp.specs.Steps.{begins}
use Rattle.sdp.proofs.steps.is_attribute.Goals as goal

pub slice_bounds-is_spelled-end-2 : goal.slice_bounds-is_spelled-end-2
slice_bounds-is_spelled-end-2 c = omega (arith, length-take 18 c.args.line.now)

pub returns : goal.returns
unfolding begins
returns c = cond_ends _ _ _ _ (eq-eqb _ _ c.if-line-ne32.false) c.is_spelled.ensures
