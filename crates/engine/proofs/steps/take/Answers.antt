use mathlib.Core.Path.{sym, ap, ◌∙◌}
use native.Mathlib.Omega.{arith}
use Prim.Native.Nat.{ℕ}
use Rattle.source.specs.Distances.{reach_of}
use Rattle.engine.specs.Lean.{TakenBy, above, taken}
use Rattle.engine.proofs.Chosen.{jump_taken, far_ahead, ahead_taken}
use Rattle.engine.proofs.steps.take.Goals as goal

pub returns-then-d-lt-JUMPS : goal.returns-then-d-lt-JUMPS
returns-then-d-lt-JUMPS c =
    let a = c.args in c.jumped.ensures ∙ jump_taken a.t a.number a.mark c.if-d-lt-JUMPS.true

pub returns-then-d-eq1 : goal.returns-then-d-eq1
unfolding taken
returns-then-d-eq1 c =
    let a = c.args in c.near.ensures ∙ ap (λ (d : ℕ). TakenBy a.t a.number a.mark (reach_of d)) (sym c.if-d-eq1.true)

pub returns-then-d-lt-NEAR : goal.returns-then-d-lt-NEAR
unfolding taken
returns-then-d-lt-NEAR c = c.near-then-d-lt-NEAR.ensures

pub returns : goal.returns
returns c =
    let a = c.args in
    let d = far_ahead a.t a.number a.mark (above a.t.highest a.number) (omega arith) (λ l. omega (arith, l, c.if-d-lt-JUMPS.false))
    (λ l. omega (arith, l, c.if-d-lt-NEAR.false)) in
    c.ahead.ensures ∙ ahead_taken a.t a.number a.mark d.0 d.1
