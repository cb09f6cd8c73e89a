use mathlib.Core.Path.{sym, ◌∙◌}
use Prim.Native.Nat.{◌-◌}
use native.Mathlib.Omega.{arith}
use lib.ListN.{length}
use Rattle.shell.proofs.Answered.{Fair, given_fair}
use Rattle.shell.proofs.Taking.{goes_unwritten, taken_fits, taken_holds, taken_less, held_ended, unwritten_held}
use Rattle.shell.proofs.writing.write_all.Goals as goal

pub loop-at-init : goal.loop-at-init
loop-at-init c = unwritten_held c.begun-writing.ensures

-- a write is made only if a try is left, and a byte
pub slice_bounds-write-count : goal.slice_bounds-write-count
slice_bounds-write-count c =
    let more = goes_unwritten c.loop-at.writing (length c.args.bytes.now) (sym c.goes_on.ensures ∙ c.loop-at-test.true) in
    omega arith

pub slice_bounds-write-start : goal.slice_bounds-write-start
slice_bounds-write-start c =
    let more = goes_unwritten c.loop-at.writing (length c.args.bytes.now) (sym c.goes_on.ensures ∙ c.loop-at-test.true) in
    omega arith

pub slice_bounds-write-end : goal.slice_bounds-write-end
slice_bounds-write-end c =
    let more = goes_unwritten c.loop-at.writing (length c.args.bytes.now) (sym c.goes_on.ensures ∙ c.loop-at-test.true) in
    omega arith

pub overflow_sub-bytes : goal.overflow_sub-bytes
overflow_sub-bytes c =
    let more = goes_unwritten c.loop-at.writing (length c.args.bytes.now) (sym c.goes_on.ensures ∙ c.loop-at-test.true) in
    omega arith

pub after-writing-requires : goal.after-writing-requires
after-writing-requires c =
    let w = c.loop-at.writing in
    let n = length c.args.bytes.now in
    let more = goes_unwritten w n (sym c.goes_on.ensures ∙ c.loop-at-test.true) in
    let fair : Fair (n - w.at) w.left c.judged.result = given_fair _ _ _ _ (omega arith) c.judged.ensures in
    let fits = taken_fits n w c.judged.result more.1 fair in
    omega (arith, c.well_formed)

pub loop-at-smaller : goal.loop-at-smaller
loop-at-smaller c =
    let w = c.loop-at.writing in
    let n = length c.args.bytes.now in
    let more = goes_unwritten w n (sym c.goes_on.ensures ∙ c.loop-at-test.true) in
    let fair : Fair (n - w.at) w.left c.judged.result = given_fair _ _ _ _ (omega arith) c.judged.ensures in
    rw c.after-writing.ensures (taken_less n w c.judged.result more.0 more.1 fair)

pub loop-at-preserved : goal.loop-at-preserved
loop-at-preserved c =
    let w = c.loop-at.writing in
    let n = length c.args.bytes.now in
    let more = goes_unwritten w n (sym c.goes_on.ensures ∙ c.loop-at-test.true) in
    let fair : Fair (n - w.at) w.left c.judged.result = given_fair _ _ _ _ (omega arith) c.judged.ensures in
    rw c.after-writing.ensures (taken_holds n w c.judged.result c.loop-at.invariant more.1 fair)

pub returns : goal.returns
returns c =
    let loop = c.loop-at in
    held_ended (length c.args.bytes.now) loop.writing loop.invariant (sym c.goes_on.ensures ∙ c.loop-at-test.false)
