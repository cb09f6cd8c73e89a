use borrow.Author.Rules.{rules}
use mathlib.Core.Path.{ap, ◌∙◌}
use Prim.Native.Nat.{ℕ, ◌^◌}
use lib.ListN.{set}
use Rattle.numbers.specs.Integers.{modulo}
use Rattle.numbers.proofs.Signed.{seen_is}
use Rattle.lent.proofs.lost_words.store.Goals as goal

pub returns : goal.returns
returns c =
    let a = c.args in
    let lost = c.complement.ensures ∙ ap (modulo (2 ^ 64)) (seen_is a.lost (search rules)) in
    c.put.ensures ∙ ap (λ (n : ℕ). set a.words.now 0 n) lost
