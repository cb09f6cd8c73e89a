use borrow.Author.Rules.{rules}
use mathlib.Core.Path.{◌≡◌, refl, sym, ap, ◌∙◌}
use native.Mathlib.Omega.{arith}
use Prim.Native.Nat.{◌*◌, ◌<◌}
use lib.ListN.{length, get_or, length-take}
use lib.Seq.{sets, get_or-take}
use Rattle.sources.specs.declared.Place.{Place}
use Rattle.sources.specs.Places.{empty_place, held_of}
use Rattle.sources.specs.Tables.{lent}
use Rattle.sources.specs.Tallies.{no_tally}
use Rattle.sources.specs.Rows.{Line, line_of, lines_from, lines_of}
use Rattle.sources.proofs.Turns.{length-mapped}
use Rattle.sources.proofs.Fronts.{front_le, held_first}
use Rattle.sources.proofs.LineLaws.{lines_long, lines_at}
use Rattle.lent.specs.StreamWords.{line_words}
use Rattle.lent.proofs.StreamRuns.{store_turn, store_done}
use Rattle.lent.proofs.stream_words.store_lines.Goals as goal

pub loop-i-init : goal.loop-i-init
loop-i-init c =
    let t = c.args.run.table in
    let long : length t.places ≡ 16 = search (rules, length-mapped) in
    (refl, omega arith, omega (arith, c.held_in-n.ensures, front_le (lent t), length-take t.count t.places, long), c.held_in-n.ensures, refl)

pub loop-i-preserved : goal.loop-i-preserved
loop-i-preserved c =
    let l = c.loop-i in
    let run = c.args.run in
    let t = run.table in
    let hs = held_of (lent t) in
    let tally = get_or run.tallies l.i no_tally in
    let h : l.i < length hs = omega (arith, l.invariant.3, c.loop-i-test.true) in
    let many = lines_long hs run.tallies in
    let first = ap (λ ps. get_or ps l.i empty_place) (held_first t.places t.count (length hs) refl) ∙ get_or-take (length hs) t.places l.i empty_place h in
    let here = lines_at hs run.tallies l.i h ∙ ap (λ (p : Place). line_of p tally) first in
    let e = c.put_line.ensures ∙ ap (λ (x : Line). sets l.lines (13 * l.i) (line_words x)) (sym here) in (
      c.put_line.auto.lines ∙ l.invariant.0,
      omega arith,
      l.invariant.2,
      l.invariant.3,
      store_turn (lines_from hs run.tallies) l.i l.lines (omega (arith, h, many)) e ∙ l.invariant.4,
    )

pub shape_of-lines : goal.shape_of-lines
shape_of-lines c = c.loop-i.invariant.0

pub returns : goal.returns
unfolding lines_of
returns c =
    let l = c.loop-i in
    let run = c.args.run in
    let hs = held_of (lent run.table) in
    store_done (lines_from hs run.tallies) l.i l.lines (omega (arith, l.invariant.3, c.loop-i-test.false, lines_long hs run.tallies)) ∙ l.invariant.4
