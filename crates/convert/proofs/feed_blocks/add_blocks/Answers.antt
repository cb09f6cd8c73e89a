use native.Mathlib.Omega.{arith}
use Rattle.convert.proofs.Adding.{done_taken, left_short, added_room, added_fits}
use Rattle.convert.proofs.feed_blocks.add_blocks.Goals as goal

pub returns-then-out-n : goal.returns-then-out-n
returns-then-out-n c =
    let a = c.args in
    let w = c.wanted-n in
    rw c.clear.ensures
    (added_room a.u a.lent.now a.rest.now a.out.now c.requires.ready.long (omega (arith, c.requires.kept)) c.if-out-n.true (w.ensures.exact c.if-out-n.true))

pub settle-requires : goal.settle-requires
settle-requires c =
    let a = c.args in
    record {
      long = c.requires.ready.long;
      few = c.requires.few;
      bytes = omega (arith, c.pass-passed.ensures.taken, done_taken a.u a.lent.now a.rest.now, c.requires.ready.short);
    }

pub returns : goal.returns
returns c =
    let a = c.args in
    let p = c.pass-passed in
    added_fits a.u a.lent.now a.rest.now a.out.now c.requires.ready.long (c.wanted-n.ensures.enough (omega (arith, c.if-out-n.false))) p.ensures (left_short a.rest.now p.result.ended) c.settle.ensures
