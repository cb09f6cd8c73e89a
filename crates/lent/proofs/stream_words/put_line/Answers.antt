use mathlib.Core.Path.{ap, ap₂, ◌∙◌}
use mathlib.Core.List.{List, [], ◌∷◌}
use Prim.Native.Nat.{ℕ, ◌+◌}
use lib.Seq.{sets}
use Rattle.lent.proofs.StreamRuns.{three_parts}
use Rattle.lent.proofs.stream_words.put_line.Goals as goal

pub returns : goal.returns
returns c =
    let a = c.args in
    let second = c.put_all.ensures ∙ ap₂ (λ (l n : List ℕ). sets l (a.at + 1) n) c.put.ensures c.words_of-record.ensures in
    c.put_all-2.ensures
    ∙ ap (λ (l : List ℕ). sets l (a.at + 11) (a.t.jumped ∷ a.t.restarts ∷ [])) second
    ∙ three_parts a.lines.now a.at a.p a.t
