use mathlib.Core.Path.{refl, ap}
use mathlib.Core.Bool.{not}
use borrow.Author.Tests.{lt-leb, le-leb}
use Rattle.answers.proofs.Conditions.{cond_ends, cond_goes}
use Rattle.breaker.specs.Calls.{unstarted}
use Rattle.capi.specs.BreakerCalls.{starts}
use Rattle.capi.proofs.Steps.{start_other, start_made}
use Rattle.capi.proofs.circuit.flasknib_breaker_start.Goals as goal

pub returns-then-breaker-ne-WORDS : goal.returns-then-breaker-ne-WORDS
returns-then-breaker-ne-WORDS c =
    let a = c.args in
    start_other _ a.breaker.now c.if-breaker-ne-WORDS.true c.code.ensures

pub returns-then-reduce-gt1 : goal.returns-then-reduce-gt1
unfolding starts
returns-then-reduce-gt1 c =
    let a = c.args in
    let t = lt-leb a.reduce 1 c.if-reduce-gt1.true in
    start_made a.breaker.now c.if-breaker-ne-WORDS.false (cond_ends _ _ _ unstarted (ap not t) refl)
    (record { answers = c.code-then-reduce-gt1.ensures; stores = refl })

pub returns-then-full-gt1 : goal.returns-then-full-gt1
unfolding starts
returns-then-full-gt1 c =
    let a = c.args in
    let reduce = le-leb a.reduce 1 c.if-reduce-gt1.false in
    let full = lt-leb a.full 1 c.if-full-gt1.true in
    start_made a.breaker.now c.if-breaker-ne-WORDS.false (cond_goes _ _ _ _ (ap not reduce) (cond_ends _ _ _ unstarted (ap not full) refl))
    (record { answers = c.code-then-full-gt1.ensures; stores = refl })

pub put_back-requires : goal.put_back-requires
put_back-requires c = c.if-breaker-ne-WORDS.false

pub returns : goal.returns
unfolding starts
returns c =
    let a = c.args in
    let reduce = le-leb a.reduce 1 c.if-reduce-gt1.false in
    let full = le-leb a.full 1 c.if-full-gt1.false in
    start_made a.breaker.now c.if-breaker-ne-WORDS.false (cond_goes _ _ _ _ (ap not reduce) (cond_goes _ _ _ _ (ap not full) c.start.ensures.value))
    c.put_back.ensures
