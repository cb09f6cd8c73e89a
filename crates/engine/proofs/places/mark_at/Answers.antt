use mathlib.Core.Path.{ap, ◌∙◌}
use native.Mathlib.Omega.{arith}
use Prim.Native.Nat.{ℕ, ◌/◌, ◌%◌, ◌^◌}
use Rattle.engine.proofs.Spots.{mark_word}
use Rattle.engine.proofs.places.mark_at.Goals as goal

pub returns : goal.returns
returns c =
    let a = c.args in (ap (λ (x : ℕ). x / 2 ^ (a.k % 64) % 2) c.chosen.ensures ∙ mark_word a.h a.k c.requires, omega arith)
