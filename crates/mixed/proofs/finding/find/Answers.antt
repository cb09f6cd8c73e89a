use mathlib.Core.Path.{◌≡◌, ap, sym, ◌∙◌}
use native.Mathlib.Omega.{arith}
use Prim.Native.Nat.{ℕ, ◌+◌, ◌-◌, ◌*◌}
use lib.ListN.{take, drop}
use Rattle.mixed.specs.Lines.{lines_in, ssrc_in}
use Rattle.mixed.specs.Places.{place_by}
use Rattle.mixed.proofs.Cuts.{ssrc_at_lem, lines_turn, lines_done}
use Rattle.mixed.proofs.Standing.{place_ends, place_goes, place_none}
use Rattle.mixed.proofs.finding.find.Goals as goal

pub loop-i-init : goal.loop-i-init
loop-i-init c =
    let a = c.args in
    let all : a.n - 0 ≡ a.n = omega arith in
    (omega arith, omega (arith, ap (λ (k : ℕ). place_by ssrc_in a.ssrc (lines_in k a.lines.now)) all))

pub bounds-lines-i : goal.bounds-lines-i
bounds-lines-i c = omega arith

pub returns-then-lines-i : goal.returns-then-lines-i
returns-then-lines-i c =
    let l = c.loop-i in
    let a = c.args in
    let ws = a.lines.now in
    let line = take 13 (drop (13 * l.i) ws) in
    let rest = lines_in (a.n - (l.i + 1)) (drop (13 * (l.i + 1)) ws) in
    let e = ap (place_by ssrc_in a.ssrc) (lines_turn a.n l.i ws c.loop-i-test.true)
    ∙ place_ends ssrc_in a.ssrc line rest (ssrc_at_lem l.i ws ∙ c.if-lines-i.true) in
    (omega (arith, e, l.invariant.1), omega arith)

pub loop-i-preserved : goal.loop-i-preserved
loop-i-preserved c =
    let l = c.loop-i in
    let a = c.args in
    let ws = a.lines.now in
    let line = take 13 (drop (13 * l.i) ws) in
    let rest = lines_in (a.n - (l.i + 1)) (drop (13 * (l.i + 1)) ws) in
    let e = ap (place_by ssrc_in a.ssrc) (lines_turn a.n l.i ws c.loop-i-test.true)
    ∙ place_goes ssrc_in a.ssrc line rest (λ z. c.if-lines-i.false (sym (ssrc_at_lem l.i ws) ∙ z)) in
    (omega arith, omega (arith, e, l.invariant.1))

pub returns : goal.returns
returns c =
    let l = c.loop-i in
    let a = c.args in
    let e = ap (place_by ssrc_in a.ssrc) (lines_done a.n l.i (drop (13 * l.i) a.lines.now) c.loop-i-test.false) ∙ place_none ssrc_in a.ssrc in
    (omega (arith, e, l.invariant.1), omega arith)
