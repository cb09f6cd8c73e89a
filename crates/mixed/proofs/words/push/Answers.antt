use mathlib.Core.Path.{◌≡◌, sym, ap, ◌∙◌}
use mathlib.Core.List.{◌++◌}
use Prim.Native.Nat.{ℕ, ◌+◌, ◌-◌, ◌*◌}
use native.Mathlib.Omega.{arith}
use lib.ListN.{length, take, drop, length-drop}
use lib.Seq.{paste, sets-eq, length-take-le}
use Rattle.mixed.proofs.words.push.Goals as goal

pub returns : goal.returns
returns c =
    let a = c.args in
    let ws = a.lines.now in
    let from = drop (13 * a.at) ws in
    let to = 13 * (a.at + 1) in
    let many = 13 * (a.n - a.at) in
    let size : 13 * a.n - 13 * a.at ≡ many = omega arith in
    let long : length (take many from) ≡ many = length-take-le many from (rw length-drop (omega arith)) in
    c.copy_within.ensures.after
    ∙ ap (paste ws to from) size
    ∙ ap (λ (k : ℕ). take to ws ++ take many from ++ drop (to + k) ws) (sym long)
    ∙ sym (sets-eq (take many from) ws to (omega (arith, long)))
