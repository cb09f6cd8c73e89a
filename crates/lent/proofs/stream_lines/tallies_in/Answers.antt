use mathlib.Core.Path.{◌≡◌, sym, ap, ◌∙◌}
use native.Mathlib.Omega.{arith}
use Prim.Native.Nat.{◌+◌, ◌-◌, ◌*◌}
use lib.ListN.{length, set, drop, replicate, length-drop}
use lib.Seq.{sets, take_all}
use Rattle.lent.specs.StreamWords.{each_line, tally_in}
use Rattle.lent.proofs.StreamRuns.{each_none, take-turn}
use Rattle.lent.proofs.stream_lines.tallies_in.Goals as goal

pub loop-i-init : goal.loop-i-init
loop-i-init c =
    let a = c.args in
    let whole : a.n - 0 ≡ a.n = omega arith in
    (omega arith, (λ i. sets (replicate 16 (c.fresh-tally.ensures i)) 0 (each_line tally_in (whole i) a.lines.now)))

pub overflow_mul-at : goal.overflow_mul-at
overflow_mul-at c = omega arith

pub offset_bounds-lines-at : goal.offset_bounds-lines-at
offset_bounds-lines-at c = omega arith

pub slice_bounds-tally_in-count : goal.slice_bounds-tally_in-count
slice_bounds-tally_in-count c = omega arith

pub loop-i-preserved : goal.loop-i-preserved
loop-i-preserved c =
    let l = c.loop-i in
    let a = c.args in
    let ws = a.lines.now in
    let at = 13 * l.i in
    let rest = take_all (length ws - at) (drop at ws) (omega (arith, length-drop at ws)) in
    let here = c.tally_in-t.ensures ∙ ap tally_in rest in (
      omega arith,
      (λ j. sets (set l.tallies l.i (here j)) (l.i + 1) (each_line tally_in (a.n - (l.i + 1)) (drop (13 * (l.i + 1)) ws)))
          ∙ take-turn a.n l.i ws c.loop-i-test.true tally_in l.tallies ∙ l.invariant.1,
    )

pub returns : goal.returns
returns c =
    let l = c.loop-i in
    let a = c.args in
    let stored = ap (sets l.tallies l.i) (each_none tally_in a.n l.i (drop (13 * l.i) a.lines.now) c.loop-i-test.false) in
    sym stored ∙ l.invariant.1

pub bounds-tallies-i : goal.bounds-tallies-i
bounds-tallies-i c = omega arith

pub overflow_add-i : goal.overflow_add-i
overflow_add-i c = omega arith

pub loop-i-smaller : goal.loop-i-smaller
loop-i-smaller c = omega arith
