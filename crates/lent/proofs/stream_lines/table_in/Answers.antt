use mathlib.Core.Path.{◌≡◌, sym, ap, ◌∙◌}
use native.Mathlib.Omega.{arith}
use Prim.Native.Nat.{◌+◌, ◌-◌, ◌*◌}
use lib.ListN.{length, set, drop, length-take, length-drop}
use lib.Seq.{sets, take_all}
use Rattle.lent.specs.StreamWords.{each_line, place_in, line_fits}
use Rattle.lent.proofs.StreamRuns.{each_none, take-turn, each_at}
use Rattle.lent.proofs.stream_lines.table_in.Goals as goal

pub loop-i-init : goal.loop-i-init
loop-i-init c =
    let a = c.args in
    let whole : a.n - 0 ≡ a.n = omega arith in
    (omega arith, ap (λ t. t.count) c.empty-t.ensures, (λ i. sets (c.empty-t.ensures i).places 0 (each_line place_in (whole i) a.lines.now)))

pub overflow_mul-at : goal.overflow_mul-at
overflow_mul-at c = omega arith

pub offset_bounds-lines-at : goal.offset_bounds-lines-at
offset_bounds-lines-at c = omega arith

pub slice_bounds-place_in-count : goal.slice_bounds-place_in-count
slice_bounds-place_in-count c = omega arith

pub place_in-p-requires : goal.place_in-p-requires
place_in-p-requires c =
    let l = c.loop-i in
    let ws = c.args.lines.now in
    let at = 13 * l.i in
    let rest = take_all (length ws - at) (drop at ws) (omega (arith, length-drop at ws)) in
    (omega (arith, length-take (length ws - at) (drop at ws), length-drop at ws), ap line_fits rest ∙ each_at line_fits c.args.n l.i ws c.loop-i-test.true c.requires.2)

pub loop-i-preserved : goal.loop-i-preserved
loop-i-preserved c =
    let l = c.loop-i in
    let a = c.args in
    let ws = a.lines.now in
    let at = 13 * l.i in
    let rest = take_all (length ws - at) (drop at ws) (omega (arith, length-drop at ws)) in
    let here = c.place_in-p.ensures ∙ ap place_in rest in (
      omega arith,
      l.invariant.1,
      (λ j. sets (set l.t.places l.i (here j)) (l.i + 1) (each_line place_in (a.n - (l.i + 1)) (drop (13 * (l.i + 1)) ws)))
          ∙ take-turn a.n l.i ws c.loop-i-test.true place_in l.t.places ∙ l.invariant.2,
    )

pub returns : goal.returns
returns c =
    let l = c.loop-i in
    let a = c.args in
    let stored = ap (sets l.t.places l.i) (each_none place_in a.n l.i (drop (13 * l.i) a.lines.now) c.loop-i-test.false) in
    λ j. record { places = (sym stored ∙ l.invariant.2) j; count = l.invariant.1 j }

pub overflow_add-i : goal.overflow_add-i
overflow_add-i c = omega arith

pub loop-i-smaller : goal.loop-i-smaller
loop-i-smaller c = omega arith
