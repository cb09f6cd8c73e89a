use borrow.Author.Rules.{rules}
use mathlib.Core.Path.{refl, sym, ◌∙◌}
use Prim.Native.Nat.{◌-◌, ◌<◌}
use native.Mathlib.Omega.{arith}
use lib.ListN.{length}
use Rattle.shell.proofs.Answered.{Fair, given_fair}
use Rattle.shell.proofs.Filling.{goes_more, after_fits, after_stands, after_less, stands_filled, begun_stands, front_stays}
use Rattle.shell.proofs.reading.read_until.Goals as goal

pub loop-input-init : goal.loop-input-init
loop-input-init c = (refl, begun_stands c.requires.0 c.begun-reading.ensures, refl)

-- a read is made only if more may come and a byte is not there yet
pub slice_bounds-read-count : goal.slice_bounds-read-count
slice_bounds-read-count c =
    let more = goes_more c.loop-input.reading c.args.enough (sym c.goes_on.ensures ∙ c.loop-input-test.true) in
    omega (arith, more.1, c.requires.1, c.loop-input.invariant.0)

pub slice_bounds-read-start : goal.slice_bounds-read-start
slice_bounds-read-start c =
    let more = goes_more c.loop-input.reading c.args.enough (sym c.goes_on.ensures ∙ c.loop-input-test.true) in
    omega (arith, more.1, c.requires.1, c.loop-input.invariant.0)

pub slice_bounds-read-end : goal.slice_bounds-read-end
slice_bounds-read-end c = omega (arith, c.loop-input.invariant.0)

pub overflow_sub-end : goal.overflow_sub-end
overflow_sub-end c =
    let more = goes_more c.loop-input.reading c.args.enough (sym c.goes_on.ensures ∙ c.loop-input-test.true) in
    omega (arith, more.1, c.requires.1)

pub after-reading-requires : goal.after-reading-requires
after-reading-requires c =
    let r = c.loop-input.reading in
    let n = length c.args.buffer.now in
    let more = goes_more r c.args.enough (sym c.goes_on.ensures ∙ c.loop-input-test.true) in
    let inside : r.input.bytes < n = omega (arith, more.1, c.requires.1) in
    let fair : Fair (n - r.input.bytes) r.left c.judged.result = given_fair _ _ _ _ (omega arith) c.judged.ensures in
    let fits = after_fits n r c.judged.result inside fair in
    omega (arith, c.well_formed)

pub loop-input-smaller : goal.loop-input-smaller
loop-input-smaller c =
    let r = c.loop-input.reading in
    let n = length c.args.buffer.now in
    let more = goes_more r c.args.enough (sym c.goes_on.ensures ∙ c.loop-input-test.true) in
    let inside : r.input.bytes < n = omega (arith, more.1, c.requires.1) in
    let fair : Fair (n - r.input.bytes) r.left c.judged.result = given_fair _ _ _ _ (omega arith) c.judged.ensures in
    rw c.after-reading.ensures (after_less n r c.judged.result more.0 inside fair)

pub loop-input-preserved : goal.loop-input-preserved
loop-input-preserved c =
    let a = c.args in
    let r = c.loop-input.reading in
    let n = length a.buffer.now in
    let inv = c.loop-input.invariant in
    let more = goes_more r a.enough (sym c.goes_on.ensures ∙ c.loop-input-test.true) in
    let inside : r.input.bytes < n = omega (arith, more.1, c.requires.1) in
    let fair : Fair (n - r.input.bytes) r.left c.judged.result = given_fair _ _ _ _ (omega arith) c.judged.ensures in (
      search rules,
      rw c.after-reading.ensures (after_stands a.first a.enough n r c.judged.result inv.1 more.1 inside fair),
      front_stays a.first r.input.bytes (n - r.input.bytes) c.loop-input.buffer c.read-answer.new.buffer inv.1.after (omega (arith, inside, inv.0)) ∙ inv.2,
    )

pub returns : goal.returns
returns c =
    let loop = c.loop-input in (
      stands_filled c.args.first c.args.enough (length c.args.buffer.now) loop.reading loop.invariant.1
          (sym c.goes_on.ensures ∙ c.loop-input-test.false),
      loop.invariant.2,
    )
