use mathlib.Core.Path.{◌≡◌, sym, ap, ◌∙◌}
use native.Mathlib.Omega.{arith}
use Prim.Native.Nat.{ℕ, ◌+◌}
use lib.ListN.{length}
use lib.Seq.{sets}
use mathlib.Core.List.{List}
use Rattle.table.specs.Decimal.{decimal}
use Rattle.answers.proofs.Stores.{sets-append}
use Rattle.table.proofs.refused.put_counted.Goals as goal

pub returns : goal.returns
returns c =
    let first = c.put_bytes.ensures in
    let put = c.put_before in
    let place : put.result ≡ c.args.at + length c.args.text.now = omega arith in
    put.ensures.written ∙ ap (λ (i : ℕ). sets c.put_bytes.new.out i (decimal c.args.n)) place
    ∙ ap (λ (l : List ℕ). sets l (c.args.at + length c.args.text.now) (decimal c.args.n)) first
    ∙ sym (sets-append c.args.out.now c.args.at c.args.text.now (decimal c.args.n))
