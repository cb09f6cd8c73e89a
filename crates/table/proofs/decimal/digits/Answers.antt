use borrow.Author.Rules.{rules}
use Prim.Native.Nat.{◌/◌}
use native.Mathlib.Omega.{arith}
use native.Mathlib.Nat.{zero-add}
use Rattle.table.proofs.Digits.{length-one, length_more, length_two, length-four, length-u64}
use Rattle.table.proofs.decimal.digits.Goals as goal

pub loop-rest-init : goal.loop-rest-init
loop-rest-init c = (search rules, zero-add _)

pub overflow_add-count : goal.overflow_add-count
overflow_add-count c = omega (arith, length-u64 c.args.n (omega arith))

pub loop-rest-preserved : goal.loop-rest-preserved
loop-rest-preserved c = omega (arith, length-four c.loop-rest.rest c.loop-rest-test.true)

pub overflow_add-result : goal.overflow_add-result
overflow_add-result c = omega (arith, length-u64 c.args.n (omega arith))

pub returns-then-rest-lt10 : goal.returns-then-rest-lt10
returns-then-rest-lt10 c = omega (arith, length-one c.loop-rest.rest c.if-rest-lt10.true)

pub overflow_add-result-then-rest-lt100 : goal.overflow_add-result-then-rest-lt100
overflow_add-result-then-rest-lt100 c = omega (arith, length-u64 c.args.n (omega arith))

pub returns-then-rest-lt100 : goal.returns-then-rest-lt100
returns-then-rest-lt100 c =
    let rest = c.loop-rest.rest in omega (arith, length_more rest c.if-rest-lt10.false, length-one (rest / 10) (omega arith))

pub overflow_add-result-then-rest-lt1000 : goal.overflow_add-result-then-rest-lt1000
overflow_add-result-then-rest-lt1000 c = omega (arith, length-u64 c.args.n (omega arith))

pub returns-then-rest-lt1000 : goal.returns-then-rest-lt1000
returns-then-rest-lt1000 c =
    let rest = c.loop-rest.rest in omega (arith, length_two rest c.if-rest-lt100.false, length-one (rest / 100) (omega arith))

pub overflow_add-result-2 : goal.overflow_add-result-2
overflow_add-result-2 c = omega (arith, length-u64 c.args.n (omega arith))

pub returns : goal.returns
returns c =
    let rest = c.loop-rest.rest in omega (arith, length_two rest (omega arith), length_more (rest / 100) (omega arith), length-one (rest / 100 / 10) (omega arith))
