use borrow.Author.Rules.{rules}
use mathlib.Core.Path.{◌≡◌, sym, ap, ◌∙◌}
use native.Mathlib.Nat.{zero-add}
use native.Mathlib.Omega.{arith}
use Prim.Native.Nat.{◌<◌}
use lib.ListN.{length, length-take}
use lib.Seq.{get_or-take}
use Rattle.answers.proofs.Conditions.{was_false, was_true}
use Rattle.sources.specs.Places.{held, empty_place, held_of}
use Rattle.sources.specs.Tables.{lent}
use Rattle.sources.proofs.Turns.{length-mapped}
use Rattle.lent.proofs.StreamRuns.{held_goes, held_ends, held_done}
use Rattle.lent.proofs.stream_words.held_in.Goals as goal

pub loop-i-init : goal.loop-i-init
loop-i-init c =
    let t = c.args.t in
    let long : length t.places ≡ 16 = search (rules, length-mapped) in
    (omega arith, c.in_use-n.ensures, omega (arith, c.in_use-n.ensures, length-take t.count t.places, long), zero-add (length (held_of (lent t))))

pub returns-then-not-has_arrivals : goal.returns-then-not-has_arrivals
returns-then-not-has_arrivals c =
    let l = c.loop-i in
    let t = c.args.t in
    let h : l.i < length (lent t) = omega (arith, l.invariant.1, c.loop-i-test.true) in
    let here = get_or-take t.count t.places l.i empty_place (omega (arith, h, length-take t.count t.places)) in
    sym (held_ends (lent t) l.i h (ap held here ∙ was_false c.has_arrivals.ensures c.if-not-has_arrivals.true)) ∙ l.invariant.3

pub loop-i-preserved : goal.loop-i-preserved
loop-i-preserved c =
    let l = c.loop-i in
    let t = c.args.t in
    let h : l.i < length (lent t) = omega (arith, l.invariant.1, c.loop-i-test.true) in
    let here = get_or-take t.count t.places l.i empty_place (omega (arith, h, length-take t.count t.places)) in
    let e = ap held here ∙ was_true c.has_arrivals.ensures c.if-not-has_arrivals.false in
    (omega arith, l.invariant.1, l.invariant.2, held_goes (lent t) l.i h e ∙ l.invariant.3)

pub returns : goal.returns
returns c =
    let l = c.loop-i in
    let t = c.args.t in
    let all : c.in_use-n.result ≡ l.i = omega (arith, l.invariant.0, c.loop-i-test.false) in
    all ∙ sym (held_done (lent t) l.i (omega (arith, l.invariant.1, c.loop-i-test.false))) ∙ l.invariant.3
