use mathlib.Core.Path.{sym, ap, ◌∙◌}
use native.Mathlib.Omega.{arith}
use Rattle.source.specs.Distances.{reach_of}
use Rattle.source.proofs.Reached.{reach_level, reach_ahead, reach_behind, reach_jump}
use Rattle.source.proofs.distances.reach_of.Goals as goal

pub returns-then-d-eq0 : goal.returns-then-d-eq0
returns-then-d-eq0 c = sym (ap reach_of c.if-d-eq0.true ∙ reach_level)

pub returns-then-d-le-MOST_AHEAD : goal.returns-then-d-le-MOST_AHEAD
returns-then-d-le-MOST_AHEAD c = sym (reach_ahead c.args.d (omega arith) c.if-d-le-MOST_AHEAD.true)

pub returns-then-d-ge-LEAST_BEHIND : goal.returns-then-d-ge-LEAST_BEHIND
returns-then-d-ge-LEAST_BEHIND c = sym (reach_behind c.args.d c.if-d-ge-LEAST_BEHIND.true (omega arith))

pub returns : goal.returns
returns c = sym (reach_jump c.args.d (omega arith) (omega arith))
