use mathlib.Core.Path.{sym, ap₂, ◌∙◌}
use Prim.Native.Nat.{ℕ, ◌+◌, ◌*◌}
use Rattle.numbers.proofs.BigEndian.{word_add}
use Rattle.rtcp.proofs.fields.number32.Goals as goal

pub returns : goal.returns
returns c =
    let a = c.args in
    ap₂ (λ (x y : ℕ). x * 65536 + y) c.number16.ensures c.number16-2.ensures ∙ sym (word_add a.b.now a.at 2 2)
