use mathlib.Core.Path.{sym, ap, ◌∙◌}
use lib.Dec.{ltb}
use borrow.Author.Tests.{lt-ltb, le-ltb}
use Rattle.shell.specs.Turns.{is_due}
use Rattle.shell.proofs.turns.is_due.Goals as goal

pub returns-then-has_failed : goal.returns-then-has_failed
unfolding is_due
returns-then-has_failed c = rw (sym c.has_failed.ensures ∙ c.if-has_failed.true)

pub returns-then-ready-gt0 : goal.returns-then-ready-gt0
unfolding is_due
returns-then-ready-gt0 c =
    rw (sym c.has_failed.ensures ∙ c.if-has_failed.false, sym (ap (ltb 0) c.ready.ensures) ∙ lt-ltb 0 _ c.if-ready-gt0.true)

pub returns : goal.returns
unfolding is_due
returns c =
    rw
    (sym c.has_failed.ensures ∙ c.if-has_failed.false, sym (ap (ltb 0) c.ready.ensures) ∙ le-ltb 0 _ c.if-ready-gt0.false, sym c.ready-2.ensures)
