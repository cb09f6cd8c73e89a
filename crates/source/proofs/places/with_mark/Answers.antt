use borrow.Author.Rules.{rules}
use mathlib.Core.Path.{ap, ◌∙◌}
use mathlib.Core.Bool.{Bool}
use Prim.Native.Nat.{ℕ, ◌-◌}
use Rattle.source.specs.Places.{history, marks, added}
use Rattle.source.proofs.Shifts.{one_shl, added_older, moved_none}
use Rattle.source.proofs.places.with_mark.Goals as goal

pub returns-then-k-lt64 : goal.returns-then-k-lt64
returns-then-k-lt64 c = let a = c.args in c.near.ensures ∙ ap (λ (row : ℕ → Bool). history (added a.k row)) (moved_none (marks a.h))

pub returns : goal.returns
returns c =
    let a = c.args in
    rw (one_shl (a.k - 64) (search rules)) (added_older a.h (search rules) (search rules) a.k (search rules) (search rules))
