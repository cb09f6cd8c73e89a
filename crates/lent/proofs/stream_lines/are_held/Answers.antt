use mathlib.Core.Path.{◌≡◌, sym, ap, ◌∙◌}
use native.Mathlib.Omega.{arith}
use Prim.Native.Nat.{ℕ, ◌-◌, ◌*◌}
use lib.ListN.{length, drop, length-drop}
use lib.Seq.{take_all}
use Rattle.answers.specs.Conditions.{all}
use Rattle.answers.proofs.Conditions.{was_false, was_true}
use Rattle.lent.specs.StreamWords.{each_line, is_held}
use Rattle.lent.proofs.StreamRuns.{each_none, test_ends, test_goes}
use Rattle.lent.proofs.stream_lines.are_held.Goals as goal

pub loop-i-init : goal.loop-i-init
loop-i-init c =
    let a = c.args in
    let whole : a.n - 0 ≡ a.n = omega arith in
    ap (λ (j : ℕ). all (each_line is_held j a.lines.now)) whole

pub overflow_mul-at : goal.overflow_mul-at
overflow_mul-at c = omega arith

pub offset_bounds-lines-at : goal.offset_bounds-lines-at
offset_bounds-lines-at c = omega arith

pub slice_bounds-is_held-count : goal.slice_bounds-is_held-count
slice_bounds-is_held-count c = omega arith

pub returns-then-not-is_held : goal.returns-then-not-is_held
returns-then-not-is_held c =
    let l = c.loop-i in
    let a = c.args in
    let ws = a.lines.now in
    let at = 13 * l.i in
    let rest = take_all (length ws - at) (drop at ws) (omega (arith, length-drop at ws)) in
    let e = sym (ap is_held rest) ∙ was_false c.is_held.ensures c.if-not-is_held.true in
    sym (test_ends a.n l.i ws c.loop-i-test.true is_held e) ∙ l.invariant

pub loop-i-preserved : goal.loop-i-preserved
loop-i-preserved c =
    let l = c.loop-i in
    let a = c.args in
    let ws = a.lines.now in
    let at = 13 * l.i in
    let rest = take_all (length ws - at) (drop at ws) (omega (arith, length-drop at ws)) in
    let e = sym (ap is_held rest) ∙ was_true c.is_held.ensures c.if-not-is_held.false in
    sym (test_goes a.n l.i ws c.loop-i-test.true is_held e) ∙ l.invariant

pub returns : goal.returns
returns c =
    let l = c.loop-i in
    let a = c.args in
    sym (ap all (each_none is_held a.n l.i (drop (13 * l.i) a.lines.now) c.loop-i-test.false)) ∙ l.invariant

pub overflow_add-i : goal.overflow_add-i
overflow_add-i c = omega arith

pub loop-i-smaller : goal.loop-i-smaller
loop-i-smaller c = omega arith
