use mathlib.Core.Path.{sym, ◌∙◌}
use Rattle.sources.proofs.PieceCalls.{begin_is}
use Rattle.sources.proofs.pieces.started.Goals as goal

pub returns-in-Some : goal.returns-in-Some
returns-in-Some c = let first = c.start-first in sym (begin_is c.args.zeroth.now first.result (sym first.ensures) (sym c.refusal_in.ensures ∙ c.in-Some.is))

pub returns-in-None : goal.returns-in-None
returns-in-None c = let first = c.start-first in sym (begin_is c.args.zeroth.now first.result (sym first.ensures) (sym c.refusal_in.ensures ∙ c.in-None.is))
