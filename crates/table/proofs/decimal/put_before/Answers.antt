use borrow.Author.Rules.{rules}
use mathlib.Core.Path.{refl, ◌∙◌}
use Prim.Native.Nat.{◌/◌}
use native.Mathlib.Omega.{arith}
use lib.ListN.{length-set}
use Rattle.table.proofs.Digits.{length-one, length_more, length_two, length-least, put_two, put_pair, put_one}
use Rattle.table.proofs.decimal.put_before.Invariants.{start}
use Rattle.table.proofs.decimal.put_before.Goals as goal

pub loop-rest-init : goal.loop-rest-init
loop-rest-init c = (search rules, omega arith, search rules, refl, refl)

pub overflow_sub-out : goal.overflow_sub-out
overflow_sub-out c = omega (arith, length_two c.loop-rest.rest c.loop-rest-test.true)

pub bounds-out-last : goal.bounds-out-last
bounds-out-last c = omega (arith, length_two c.loop-rest.rest c.loop-rest-test.true)

pub overflow_sub-out-in-loop-rest : goal.overflow_sub-out-in-loop-rest
overflow_sub-out-in-loop-rest c = omega (arith, length_two c.loop-rest.rest c.loop-rest-test.true)

pub bounds-out-last-in-loop-rest : goal.bounds-out-last-in-loop-rest
bounds-out-last-in-loop-rest c = simp length-set (omega (arith, length_two c.loop-rest.rest c.loop-rest-test.true))

pub overflow_sub-last : goal.overflow_sub-last
overflow_sub-last c = omega (arith, length_two c.loop-rest.rest c.loop-rest-test.true)

pub loop-rest-preserved : goal.loop-rest-preserved
loop-rest-preserved c =
    let loop = c.loop-rest in
    let a = c.args in
    let two = length_two loop.rest c.loop-rest-test.true in (
      omega arith,
      omega (arith, two),
      simp length-set (omega (arith, two)),
      simp length-set loop.invariant.3,
      put_two loop.out (start a.n a.end) loop.last loop.rest c.loop-rest-test.true loop.invariant.1 ∙ loop.invariant.4,
    )

pub overflow_sub-out-then-front-lt10 : goal.overflow_sub-out-then-front-lt10
overflow_sub-out-then-front-lt10 c = omega (arith, length-one c.loop-rest.rest c.if-front-lt10.true)

pub bounds-out-last-then-front-lt10 : goal.bounds-out-last-then-front-lt10
bounds-out-last-then-front-lt10 c = omega (arith, length-one c.loop-rest.rest c.if-front-lt10.true)

pub overflow_sub-result : goal.overflow_sub-result
overflow_sub-result c = omega (arith, length-one c.loop-rest.rest c.if-front-lt10.true)

pub shape_of-out-then-front-lt10 : goal.shape_of-out-then-front-lt10
shape_of-out-then-front-lt10 c = simp length-set c.loop-rest.invariant.3

pub returns-then-front-lt10 : goal.returns-then-front-lt10
returns-then-front-lt10 c =
    let loop = c.loop-rest in
    let a = c.args in
    let one = length-one loop.rest c.if-front-lt10.true in
    record { begins = omega arith; written = put_one loop.out a.out.now (start a.n a.end) loop.last a.n loop.rest loop.invariant.1 loop.invariant.4 c.if-front-lt10.true }

pub overflow_sub-out-2 : goal.overflow_sub-out-2
overflow_sub-out-2 c = omega (arith, length_more c.loop-rest.rest c.if-front-lt10.false, length-least (c.loop-rest.rest / 10))

pub bounds-out-last-2 : goal.bounds-out-last-2
bounds-out-last-2 c = omega (arith, length_more c.loop-rest.rest c.if-front-lt10.false, length-least (c.loop-rest.rest / 10))

pub overflow_sub-out-3 : goal.overflow_sub-out-3
overflow_sub-out-3 c = omega (arith, length_more c.loop-rest.rest c.if-front-lt10.false, length-least (c.loop-rest.rest / 10))

pub bounds-out-last-3 : goal.bounds-out-last-3
bounds-out-last-3 c =
    simp length-set (omega (arith, length_more c.loop-rest.rest c.if-front-lt10.false, length-least (c.loop-rest.rest / 10)))

pub overflow_sub-result-2 : goal.overflow_sub-result-2
overflow_sub-result-2 c = omega (arith, length_more c.loop-rest.rest c.if-front-lt10.false, length-least (c.loop-rest.rest / 10))

pub shape_of-out : goal.shape_of-out
shape_of-out c = simp length-set c.loop-rest.invariant.3

pub returns : goal.returns
returns c =
    let loop = c.loop-rest in
    let a = c.args in
    let more = length_more loop.rest c.if-front-lt10.false in
    let one = length-one (loop.rest / 10) (omega arith) in
    record { begins = omega arith; written = put_pair loop.out a.out.now (start a.n a.end) loop.last a.n loop.rest loop.invariant.1 loop.invariant.4 c.if-front-lt10.false c.loop-rest-test.false }
