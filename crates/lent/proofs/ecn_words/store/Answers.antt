use borrow.Author.Rules.{rules}
use mathlib.Core.Path.{ap, ◌∙◌}
use mathlib.Core.List.{[], ◌∷◌}
use Prim.Native.Nat.{ℕ, ◌^◌}
use lib.Seq.{sets}
use Rattle.numbers.specs.Integers.{modulo}
use Rattle.numbers.proofs.Signed.{seen_is}
use Rattle.lent.proofs.ecn_words.store.Goals as goal

pub returns : goal.returns
returns c =
    let a = c.args in
    let lost = c.complement.ensures ∙ ap (modulo (2 ^ 64)) (seen_is a.c.lost (search rules)) in
    c.put_all.ensures ∙ ap (λ (n : ℕ). sets a.words.now 0 (n ∷ a.c.marked ∷ a.c.expected ∷ [])) lost
