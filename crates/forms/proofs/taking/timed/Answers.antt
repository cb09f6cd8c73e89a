use native.Mathlib.Omega.{arith}
use Rattle.answers.proofs.Conditions.{was_true, was_false}
use Rattle.trace.proofs.Accepted.{accepted}
use Rattle.forms.proofs.Steps.{takes_refuses, body_holds, next_long, next_goes, next_ready}
use Rattle.forms.proofs.taking.timed.Goals as goal

pub slice_bounds-body-end : goal.slice_bounds-body-end
slice_bounds-body-end c = omega (arith, (accepted c.args.block.now c.requires.1).block.whole)

pub all_times-requires : goal.all_times-requires
all_times-requires c = let a = accepted c.args.block.now c.requires.1 in (a.most, body_holds a.block)

pub returns-then-not-all_times : goal.returns-then-not-all_times
returns-then-not-all_times c =
    rw c.refused.ensures
    (takes_refuses c.args.c c.args.part.now c.args.out.now
    (next_long c.args.c.form c.args.c.ssrc c.args.block.now c.requires.1 (was_false c.all_times.ensures c.if-not-all_times.true)))

pub arrivals-requires : goal.arrivals-requires
arrivals-requires c = next_ready c.args.block.now c.requires.0 c.requires.1 (was_true c.all_times.ensures c.if-not-all_times.false)

pub returns : goal.returns
returns c =
    rw (next_goes c.args.c.form c.args.c.ssrc c.args.block.now c.requires.1 (was_true c.all_times.ensures c.if-not-all_times.false))
    c.arrivals.ensures
