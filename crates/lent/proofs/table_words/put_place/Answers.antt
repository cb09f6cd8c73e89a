use mathlib.Core.Path.{ap, ap₂, ◌∙◌}
use mathlib.Core.List.{List}
use Prim.Native.Nat.{ℕ, ◌+◌}
use native.Mathlib.Numerals.{add-one}
use lib.ListN.{set}
use lib.Seq.{sets}
use Rattle.lent.specs.SourceWords.{source_words}
use Rattle.lent.proofs.table_words.put_place.Goals as goal

pub returns : goal.returns
returns c =
    let a = c.args in
    let first = c.put.ensures in
    let new = c.words_of.ensures in
    c.put_all.ensures
    ∙ ap₂ (λ (l n : List ℕ). sets l (a.at + 1) n) first new
    ∙ ap (λ (k : ℕ). sets (set a.words.now a.at a.p.ssrc) k (source_words a.p.source)) (add-one a.at)
