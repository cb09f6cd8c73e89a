use borrow.Author.Rules.{rules}
use mathlib.Core.Path.{◌≡◌, refl, sym, ap, ◌∙◌}
use native.Mathlib.Omega.{arith}
use Prim.Native.Nat.{◌*◌, ◌<◌}
use lib.ListN.{length, length-take}
use lib.Seq.{sets, get_or-take}
use Rattle.sources.specs.declared.Place.{Place}
use Rattle.sources.specs.Places.{empty_place}
use Rattle.sources.specs.Tables.{lent}
use Rattle.sources.proofs.Turns.{length-mapped}
use Rattle.lent.specs.TableWords.{place_words}
use Rattle.lent.proofs.PlaceRuns.{store_turn, store_done}
use Rattle.lent.proofs.table_words.store.Goals as goal

pub loop-i-init : goal.loop-i-init
loop-i-init c =
    let t = c.args.t in
    let long : length t.places ≡ 16 = search (rules, length-mapped) in
    (refl, omega (arith, c.in_use-n.ensures, length-take t.count t.places, long), c.in_use-n.ensures, refl)

pub loop-i-preserved : goal.loop-i-preserved
loop-i-preserved c =
    let l = c.loop-i in
    let t = c.args.t in
    let h : l.i < length (lent t) = omega (arith, l.invariant.2, c.loop-i-test.true) in
    let few = length-take t.count t.places in
    let here = get_or-take t.count t.places l.i empty_place (omega (arith, h, few)) in
    let e = c.put_place.ensures ∙ ap (λ (p : Place). sets l.words (11 * l.i) (place_words p)) (sym here) in
    (c.put_place.auto.words ∙ l.invariant.0, l.invariant.1, l.invariant.2, store_turn (lent t) l.i l.words h e ∙ l.invariant.3)

pub shape_of-words : goal.shape_of-words
shape_of-words c = c.loop-i.invariant.0

pub returns : goal.returns
returns c =
    let l = c.loop-i in
    let t = c.args.t in
    store_done (lent t) l.i l.words (omega (arith, l.invariant.2, c.loop-i-test.false)) ∙ l.invariant.3
