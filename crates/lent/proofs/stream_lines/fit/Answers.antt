use mathlib.Core.Path.{◌≡◌, sym, ap, ◌∙◌}
use native.Mathlib.Omega.{arith}
use Prim.Native.Nat.{ℕ, ◌-◌, ◌*◌}
use lib.ListN.{length, drop, length-drop}
use lib.Seq.{take_all}
use Rattle.answers.specs.Conditions.{all}
use Rattle.answers.proofs.Conditions.{was_false, was_true}
use Rattle.lent.specs.StreamWords.{each_line, line_fits}
use Rattle.lent.proofs.StreamRuns.{each_none, test_ends, test_goes}
use Rattle.lent.proofs.stream_lines.fit.Goals as goal

pub loop-i-init : goal.loop-i-init
loop-i-init c =
    let a = c.args in
    let whole : a.n - 0 ≡ a.n = omega arith in
    ap (λ (j : ℕ). all (each_line line_fits j a.lines.now)) whole

pub overflow_mul-at : goal.overflow_mul-at
overflow_mul-at c = omega arith

pub offset_bounds-lines-at : goal.offset_bounds-lines-at
offset_bounds-lines-at c = omega arith

pub slice_bounds-fits-count : goal.slice_bounds-fits-count
slice_bounds-fits-count c = omega arith

pub returns-then-not-fits : goal.returns-then-not-fits
returns-then-not-fits c =
    let l = c.loop-i in
    let a = c.args in
    let ws = a.lines.now in
    let at = 13 * l.i in
    let rest = take_all (length ws - at) (drop at ws) (omega (arith, length-drop at ws)) in
    let e = sym (ap line_fits rest) ∙ was_false c.fits.ensures c.if-not-fits.true in
    sym (test_ends a.n l.i ws c.loop-i-test.true line_fits e) ∙ l.invariant

pub loop-i-preserved : goal.loop-i-preserved
loop-i-preserved c =
    let l = c.loop-i in
    let a = c.args in
    let ws = a.lines.now in
    let at = 13 * l.i in
    let rest = take_all (length ws - at) (drop at ws) (omega (arith, length-drop at ws)) in
    let e = sym (ap line_fits rest) ∙ was_true c.fits.ensures c.if-not-fits.false in
    sym (test_goes a.n l.i ws c.loop-i-test.true line_fits e) ∙ l.invariant

pub returns : goal.returns
returns c =
    let l = c.loop-i in
    let a = c.args in
    sym (ap all (each_none line_fits a.n l.i (drop (13 * l.i) a.lines.now) c.loop-i-test.false)) ∙ l.invariant

pub overflow_add-i : goal.overflow_add-i
overflow_add-i c = omega arith

pub loop-i-smaller : goal.loop-i-smaller
loop-i-smaller c = omega arith
