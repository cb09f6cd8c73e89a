use mathlib.Core.Path.{◌≡◌}
use lib.ListN.{drop}
use Rattle.sdp.specs.Writing.{methods_in}
use Rattle.sdp.specs.Answers.{first_in}
use Rattle.sdp.proofs.answerer.first_common.Given as goal

abbrev pub invariant-loop-method : goal.invariant-loop-method
invariant-loop-method l =
    first_in (methods_in l.fn.offer) (drop l.method-index l.method-items) l.fn.ours ≡ first_in (methods_in l.fn.offer) l.method-items l.fn.ours
