use mathlib.Core.Path.{ap, ◌∙◌}
use mathlib.Core.List.{List, [], ◌∷◌}
use Prim.Native.Nat.{ℕ}
use lib.Seq.{sets}
use Rattle.lent.proofs.RunLaws.{three_runs}
use Rattle.lent.proofs.run_words.store.Goals as goal

pub returns : goal.returns
returns c =
    let a = c.args in
    let old = a.words.now in
    let first = c.put_all.ensures ∙ ap (λ (n : ℕ). sets old 0 (n ∷ a.run.length ∷ a.run.ssrc ∷ [])) c.number_of.ensures in
    let second = c.put_all-2.ensures ∙ (λ i. sets (first i) 3 (c.words_of-record.ensures i)) in
    c.put_all-3.ensures ∙ ap (λ (l : List ℕ). sets l 13 (a.run.totals.jumped ∷ a.run.totals.restarts ∷ [])) second ∙ three_runs old a.run
