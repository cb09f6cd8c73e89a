use borrow.Author.Rules.{rules}
use lib.IntN.{nat_abs}
use Rattle.numbers.proofs.Signed.{seen_is}
use mathlib.Core.Path.{ap, ◌∙◌}
use Rattle.engine.proofs.lean.begun.Goals as goal

pub returns : goal.returns
returns c =
    let w = c.awaited_in.ensures in
    let a = c.args in
    let low = c.magnitude.ensures ∙ ap nat_abs (seen_is a.s.base.0 (search rules)) in
    let high = c.magnitude-2.ensures ∙ ap nat_abs (seen_is a.s.highest.0 (search rules)) in
    (λ i. record { base = low i; highest = high i; history = a.s.history; awaited = w.0 i; counts = 0 }, w.1)
