use borrow.Author.Rules.{rules}
use mathlib.Core.Path.{ap, ◌∙◌}
use Prim.Native.Nat.{ℕ, ◌+◌, ◌*◌}
use lib.IntN.{pos, neg_ℤ}
use Rattle.numbers.proofs.Signed.{seen_is}
use Rattle.capi.proofs.codes.faulty.Goals as goal

pub returns : goal.returns
returns c =
    let n = c.args.n in
    seen_is c.negative.result (search rules) ∙ c.negative.ensures ∙ ap (λ (k : ℕ). neg_ℤ (pos (256 * n + k))) c.number.ensures
