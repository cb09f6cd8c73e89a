use mathlib.Core.Bool.{false≢true}
use native.Mathlib.Omega.{arith}
use Rattle.capi.proofs.Walked.{zero_cons, zero_end}
use Rattle.capi.proofs.table_walk.are_zero.Goals as goal

pub loop-i-init : goal.loop-i-init
loop-i-init c = λ z. z

pub returns-then-words-i-gt0 : goal.returns-then-words-i-gt0
returns-then-words-i-gt0 c = λ e. absurd (false≢true e)

pub loop-i-preserved : goal.loop-i-preserved
loop-i-preserved c = λ z.
    let l = c.loop-i in
    l.invariant (zero_cons c.args.words.now l.i (omega (arith, c.if-words-i-gt0.false)) z)

pub returns : goal.returns
returns c = λ e.
    let l = c.loop-i in
    l.invariant (zero_end c.args.words.now l.i c.loop-i-test.false)
