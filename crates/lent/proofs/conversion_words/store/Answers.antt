use mathlib.Core.Path.{ap, ◌∙◌}
use mathlib.Core.List.{[], ◌∷◌}
use Prim.Native.Nat.{ℕ}
use lib.Seq.{sets}
use Rattle.lent.proofs.conversion_words.store.Goals as goal

pub returns : goal.returns
returns c =
    let a = c.args in
    c.put_all.ensures ∙ ap (λ (n : ℕ). sets a.words.now 0 (n ∷ a.c.ssrc ∷ a.c.held ∷ [])) c.number_of.ensures
