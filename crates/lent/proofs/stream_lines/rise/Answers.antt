use mathlib.Core.Path.{sym, ap, ◌∙◌}
use native.Mathlib.Omega.{arith}
use Prim.Native.Nat.{◌+◌, ◌-◌, ◌*◌}
use lib.ListN.{drop}
use Rattle.sources.specs.Rules.{rising}
use Rattle.lent.specs.StreamWords.{place_in}
use Rattle.lent.proofs.StreamRuns.{each_none, ssrc_at, rise_begins, rise_ends, rise_goes}
use Rattle.lent.proofs.stream_lines.rise.Goals as goal

pub loop-i-init : goal.loop-i-init
loop-i-init c = let a = c.args in (omega arith, rise_begins a.n a.lines.now)

pub overflow_sub-i : goal.overflow_sub-i
overflow_sub-i c = omega arith

pub overflow_mul-i : goal.overflow_mul-i
overflow_mul-i c = omega arith

pub overflow_mul-i-in-loop-i : goal.overflow_mul-i-in-loop-i
overflow_mul-i-in-loop-i c = omega arith

pub returns-then-word_at-before : goal.returns-then-word_at-before
returns-then-word_at-before c =
    let l = c.loop-i in
    let a = c.args in
    sym (rise_ends a.n l.i a.lines.now c.loop-i-test.true (omega (arith, c.word_at.ensures, c.word_at-before.ensures, c.if-word_at-before.true))) ∙ l.invariant.1

pub loop-i-preserved : goal.loop-i-preserved
loop-i-preserved c =
    let l = c.loop-i in
    let a = c.args in
    (omega arith, sym (rise_goes a.n l.i a.lines.now c.loop-i-test.true (omega (arith, c.word_at.ensures, c.word_at-before.ensures, c.if-word_at-before.false))) ∙ l.invariant.1)

pub returns : goal.returns
unfolding rising
returns c =
    let l = c.loop-i in
    let a = c.args in
    let ws = a.lines.now in
    sym (ap (rising (ssrc_at ws (l.i - 1) + 1)) (each_none place_in a.n l.i (drop (13 * l.i) ws) c.loop-i-test.false)) ∙ l.invariant.1

pub overflow_add-i : goal.overflow_add-i
overflow_add-i c = omega arith

pub loop-i-smaller : goal.loop-i-smaller
loop-i-smaller c = omega arith
