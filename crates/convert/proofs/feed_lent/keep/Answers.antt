use mathlib.Core.Path.{◌≡◌, sym, ap₂, ◌∙◌}
use mathlib.Core.List.{List}
use Prim.Native.Nat.{ℕ, ◌+◌, ◌-◌}
use native.Mathlib.Omega.{arith}
use lib.ListN.{length, replicate}
use lib.Seq.{sets}
use Rattle.answers.proofs.Stores.{sets-append}
use Rattle.convert.proofs.feed_lent.keep.Goals as goal

pub returns : goal.returns
returns c =
    let a = c.args in
    let k = a.kept.now in
    let same : 1024 - (512 + length k) ≡ 512 - length k = omega arith in
    c.clear.ensures
    ∙ ap₂ (λ (l : List ℕ) (n : ℕ). sets l (512 + length k) (replicate n 0)) c.put_bytes.ensures same
    ∙ sym (sets-append a.lent.now 512 k (replicate (512 - length k) 0))
