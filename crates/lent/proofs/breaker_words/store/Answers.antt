use mathlib.Core.Path.{◌≡◌, ap, ◌∙◌}
use mathlib.Core.List.{List, [], ◌∷◌}
use Prim.Native.Nat.{ℕ}
use lib.Seq.{sets}
use Rattle.lent.specs.BreakerWords.{interval_words, breaker_words}
use Rattle.lent.proofs.Restored.{as_flag}
use Rattle.lent.proofs.breaker_words.store.Goals as goal

pub returns : goal.returns
unfolding breaker_words
returns c =
    let a = c.args in
    let b = a.b in
    let old = a.words.now in
    let state = c.state_number-stopped.ensures in
    let head : _ ≡ _ =
    λ i. b.settings.k ∷ b.settings.m ∷ b.settings.timeout ∷ as_flag b.settings.reduce i ∷ as_flag b.settings.full i ∷ state i ∷ b.last ∷ b.heard ∷ as_flag b.reported i ∷ b.highest ∷ b.run ∷ as_flag b.trial i ∷ b.window.used ∷ [] in
    c.store_intervals.ensures
    ∙ ap (λ (o : List ℕ). sets o 13 (interval_words b.window.intervals)) (c.put_all.ensures ∙ ap (sets old 0) head)
