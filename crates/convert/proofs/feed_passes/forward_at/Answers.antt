use Rattle.std.specs.Prelude.{Err}
use mathlib.Core.Path.{subst}
use Rattle.answers.specs.declared.Unwritten.{Unwritten}
use Prim.Native.Nat.{◌-◌}
use borrow.Rule.Slice.PartMut.{put_mid}
use lib.ListN.{length}
use Rattle.convert.specs.Runs.{row_in, next_of}
use Rattle.convert.proofs.Forwarding.{MovedAs, moved_of}
use Rattle.convert.proofs.feed_passes.forward_at.Goals.{After-forward-step}
use Rattle.convert.proofs.feed_passes.forward_at.Goals as goal

-- what the block did, by the writer's answer
moved : (c : After-forward-step)
    → let a = c.args in
    let next = next_of a.run a.block.now in
    let f = c.forward-step in
    MovedAs next (row_in a.zeroth.now next) a.out.now a.at (put_mid c.min-from.result (length a.out.now - c.min-from.result) a.out.now f.new.out) f.result.run f.result.answer
moved c =
    let a = c.args in
    let next = next_of a.run a.block.now in
    let f = c.forward-step in
    moved_of a.run (row_in a.zeroth.now next) a.out.now a.at c.min-from.result c.min-from.ensures next f.result.run f.result.answer f.new.out f.ensures

pub returns-in-Ok : goal.returns-in-Ok
returns-in-Ok c =
    let a = c.args in
    let next = next_of a.run a.block.now in
    let f = c.forward-step in
    subst (MovedAs next (row_in a.zeroth.now next) a.out.now a.at (put_mid c.min-from.result (length a.out.now - c.min-from.result) a.out.now f.new.out) f.result.run) c.in-Ok.is (moved (goal.at.returns-in-Ok c).After-forward-step)

pub returns-in-Err-Room : goal.returns-in-Err-Room
returns-in-Err-Room c =
    let a = c.args in
    let next = next_of a.run a.block.now in
    let f = c.forward-step in
    let why = rw c.in-Err-Room.is at c.in-Err-Room.field-0-is in
    subst (λ (w : Unwritten). MovedAs next (row_in a.zeroth.now next) a.out.now a.at (put_mid c.min-from.result (length a.out.now - c.min-from.result) a.out.now f.new.out) f.result.run (Err w)) why
    (subst (MovedAs next (row_in a.zeroth.now next) a.out.now a.at (put_mid c.min-from.result (length a.out.now - c.min-from.result) a.out.now f.new.out) f.result.run) c.in-Err-Room.is (moved (goal.at.returns-in-Err-Room c).After-forward-step))

pub returns-in-Err-Refused : goal.returns-in-Err-Refused
returns-in-Err-Refused c =
    let a = c.args in
    let next = next_of a.run a.block.now in
    let f = c.forward-step in
    let why = rw c.in-Err-Refused.is at c.in-Err-Refused.field-0-is in
    subst (λ (w : Unwritten). MovedAs next (row_in a.zeroth.now next) a.out.now a.at (put_mid c.min-from.result (length a.out.now - c.min-from.result) a.out.now f.new.out) f.result.run (Err w)) why
    (subst (MovedAs next (row_in a.zeroth.now next) a.out.now a.at (put_mid c.min-from.result (length a.out.now - c.min-from.result) a.out.now f.new.out) f.result.run) c.in-Err-Refused.is (moved (goal.at.returns-in-Err-Refused c).After-forward-step))
