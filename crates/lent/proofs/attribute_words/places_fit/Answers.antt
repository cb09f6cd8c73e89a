use mathlib.Core.Path.{refl, sym, ◌∙◌}
use native.Mathlib.Omega.{arith}
use Rattle.answers.proofs.Conditions.{was_true, was_false}
use Rattle.lent.proofs.AttributeLaws.{place_ends, place_goes, places_done}
use Rattle.lent.proofs.attribute_words.places_fit.Goals as goal

pub loop-i-init : goal.loop-i-init
loop-i-init c = (omega arith, refl)

pub place_fits-requires : goal.place_fits-requires
place_fits-requires c = omega (arith, c.loop-i-test.true)

pub returns-then-not-place_fits : goal.returns-then-not-place_fits
returns-then-not-place_fits c =
    let l = c.loop-i in
    let words = c.args.words.now in
    place_ends words l.i c.loop-i-test.true (was_false c.place_fits.ensures c.if-not-place_fits.true)

pub loop-i-preserved : goal.loop-i-preserved
loop-i-preserved c =
    let l = c.loop-i in
    let words = c.args.words.now in
    (omega (arith, c.loop-i-test.true), sym (place_goes words l.i c.loop-i-test.true (was_true c.place_fits.ensures c.if-not-place_fits.false)) ∙ l.invariant.1)

pub returns : goal.returns
returns c =
    let l = c.loop-i in
    let words = c.args.words.now in
    places_done words l.i (omega (arith, c.loop-i-test.false)) ∙ l.invariant.1
