use Rattle.std.specs.Prelude.{Result, Err, ℕ}
use Rattle.answers.specs.declared.Unwritten.{Unwritten}
use mathlib.Core.Path.{subst}
use Rattle.trace.specs.Rewriting.{Spaces}
use Rattle.labels.proofs.Calls.{begins_replaced, begins_room, begins_refused}
use Rattle.labels.proofs.Progress.begin.Goals as goal

pub returns-in-Ok : goal.returns-in-Ok
returns-in-Ok c =
    let a = c.args in
    let w = c.space_label in
    begins_replaced a.zeroth.now a.out.now (subst (λ (s : Result ℕ Unwritten). Spaces a.zeroth.now a.out.now s w.new.out) c.in-Ok.is w.ensures.spaces) c.started.ensures

pub returns-in-Err-Room : goal.returns-in-Err-Room
returns-in-Err-Room c =
    let a = c.args in
    let w = c.space_label in
    begins_room a.zeroth.now a.out.now (subst (λ (why : Unwritten). Spaces a.zeroth.now a.out.now (Err why) w.new.out) c.in-Err-Room.field-0-is
    (subst (λ (s : Result ℕ Unwritten). Spaces a.zeroth.now a.out.now s w.new.out) c.in-Err-Room.is w.ensures.spaces)) c.not_begun.ensures

pub returns-in-Err-Refused : goal.returns-in-Err-Refused
returns-in-Err-Refused c =
    let a = c.args in
    let w = c.space_label in
    begins_refused a.zeroth.now a.out.now (subst (λ (why : Unwritten). Spaces a.zeroth.now a.out.now (Err why) w.new.out) c.in-Err-Refused.field-0-is
    (subst (λ (s : Result ℕ Unwritten). Spaces a.zeroth.now a.out.now s w.new.out) c.in-Err-Refused.is w.ensures.spaces)) c.started-in-Err-Refused.ensures
