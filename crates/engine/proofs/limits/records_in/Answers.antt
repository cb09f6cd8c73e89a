use mathlib.Core.Path.{sym, ap, ◌∙◌}
use Prim.Native.Nat.{ℕ}
use borrow.Author.Tests.{lt-leb}
use Rattle.engine.specs.Limits.{records_in}
use Rattle.engine.proofs.Counts.{none_in}
use Rattle.engine.proofs.limits.records_in.Goals as goal

pub returns-then-width-lt-BEHIND_TIME : goal.returns-then-width-lt-BEHIND_TIME
returns-then-width-lt-BEHIND_TIME c = let a = c.args in none_in a.width a.size 0 (lt-leb 4 a.width c.if-width-lt-BEHIND_TIME.true)

pub returns-then-width-eq-USUAL : goal.returns-then-width-eq-USUAL
returns-then-width-eq-USUAL c =
    let a = c.args in
    c.whole_records.ensures ∙ ap (λ (w : ℕ). records_in w a.size) (sym c.if-width-eq-USUAL.true)

pub returns-then-width-eq-LONG : goal.returns-then-width-eq-LONG
returns-then-width-eq-LONG c =
    let a = c.args in
    c.whole_records-then-width-eq-LONG.ensures ∙ ap (λ (w : ℕ). records_in w a.size) (sym c.if-width-eq-LONG.true)
