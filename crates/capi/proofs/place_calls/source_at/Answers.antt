use mathlib.Core.Path.{◌≡◌, ap, ◌∙◌}
use Prim.Native.Nat.{ℕ, ◌+◌, ◌-◌, ◌*◌}
use native.Mathlib.Omega.{arith}
use lib.ListN.{take, drop}
use Rattle.lent.specs.SourceWords.{source_near}
use Rattle.capi.proofs.place_calls.source_at.Goals as goal

pub returns : goal.returns
returns c =
    let a = c.args in
    let from = 11 * a.at + 1 in
    let e : from + 10 - from ≡ 10 = omega arith in
    c.read.ensures ∙ ap (λ (k : ℕ). source_near (take k (drop from a.words.now))) e
