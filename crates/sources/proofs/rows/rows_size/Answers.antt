use mathlib.Core.Path.{ap}
use Prim.Native.Nat.{◌+◌}
use native.Mathlib.Omega.{arith}
use lib.ListN.{length, drop, length-append}
use Rattle.sources.specs.Rows.{lines_of, label_of, rows_of, row_of}
use Rattle.sources.proofs.LineLaws.{most, rows_next, rows_over}
use Rattle.sources.proofs.rows.rows_size.Goals as goal

pub loop-i-init : goal.loop-i-init
loop-i-init c = (omega arith, omega arith, omega arith)

pub row_size-size-requires : goal.row_size-size-requires
row_size-size-requires c = (c.requires, c.loop-i-test.true)

pub overflow_add-size : goal.overflow_add-size
overflow_add-size c = let l = c.loop-i.invariant in omega (arith, l.1, l.2, c.row_size-size.ensures.1, most _ _ _ c.requires)

pub loop-i-preserved : goal.loop-i-preserved
loop-i-preserved c =
    let a = c.args in
    let l = c.loop-i in
    let h = c.loop-i-test.true in
    let r = c.row_size-size.ensures in
    let next = rows_next a.run a.zeroth.now a.n c.requires l.i h in
    let long = length-append (row_of a.run l.i a.zeroth.now) (rows_of (label_of a.run a.zeroth.now) (drop (l.i + 1) (lines_of a.run))) in
    (omega (arith, l.invariant.0, ap length next, long, r.0), omega (arith, l.invariant.1, r.1), omega (arith, h))

pub returns : goal.returns
returns c =
    let a = c.args in
    let l = c.loop-i in
    omega (arith, l.invariant.0, ap length (rows_over a.run a.zeroth.now a.n c.requires l.i c.loop-i-test.false))
