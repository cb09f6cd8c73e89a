use native.Mathlib.Omega.{arith}
use Prim.Native.Nat.{◌*◌}
use lib.ListN.{get_or}
use Rattle.breaker.specs.declared.Interval.{Interval}
use Rattle.breaker.specs.Windows.{zero_interval}
use Rattle.breaker.specs.Private.{interval_ok}
use Rattle.breaker.proofs.Places.{sum_more, all_at, length_most, product_most}
use Rattle.breaker.proofs.intervals.summed.Goals as goal

pub overflow_add-w : goal.overflow_add-w
overflow_add-w c =
    let xs = c.args.xs.now in
    let i = c.loop-x.x-index in
    let most = length_most (get_or xs i zero_interval) (all_at interval_ok i xs c.loop-x-test.true c.requires.1) in
    omega arith

pub overflow_mul-p : goal.overflow_mul-p
overflow_mul-p c =
    let xs = c.args.xs.now in
    let i = c.loop-x.x-index in
    let most = product_most (get_or xs i zero_interval) (all_at interval_ok i xs c.loop-x-test.true c.requires.1) in
    omega arith

pub overflow_add-p : goal.overflow_add-p
overflow_add-p c =
    let xs = c.args.xs.now in
    let i = c.loop-x.x-index in
    let most = product_most (get_or xs i zero_interval) (all_at interval_ok i xs c.loop-x-test.true c.requires.1) in
    omega arith

pub loop-x-preserved : goal.loop-x-preserved
loop-x-preserved c =
    let xs = c.args.xs.now in
    let i = c.loop-x.x-index in
    let t = c.loop-x-test.true in
    let x = get_or xs i zero_interval in
    let ok = all_at interval_ok i xs t c.requires.1 in
    let l = length_most x ok in
    let p = product_most x ok in (
      omega (arith, sum_more (λ (x : Interval). x.length) i xs t),
      omega (arith, sum_more (λ (x : Interval). x.fraction * x.length) i xs t),
      omega arith,
      omega arith,
    )
