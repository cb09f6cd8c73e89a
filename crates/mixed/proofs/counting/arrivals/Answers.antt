use native.Mathlib.Omega.{arith}
use Rattle.mixed.specs.Blocks.{counted}
use Rattle.mixed.proofs.Calls.{is_sound_lem, settled_held, settled_new}
use Rattle.mixed.proofs.counting.arrivals.Goals as goal

pub find-at-requires : goal.find-at-requires
find-at-requires c = let s = is_sound_lem c.requires.0 in (s.few, omega (arith, s.room, s.few))

pub returns-then-at-run : goal.returns-then-at-run
returns-then-at-run c =
    let a = c.args in
    let find = c.find-at in
    rw (settled_held (counted a.run.form a.n a.block.now) a.ssrc a.run.held a.lines.now find.result find.ensures.0 c.if-at-run.true)
    c.renew.ensures

pub returns : goal.returns
returns c =
    let a = c.args in
    let find = c.find-at in
    rw (settled_new (counted a.run.form a.n a.block.now) a.ssrc a.run.held a.lines.now find.result find.ensures.0 c.if-at-run.false)
    c.add.ensures
