use mathlib.Core.Path.{ap, ◌∙◌}
use mathlib.Core.List.{[], ◌∷◌}
use Prim.Native.Nat.{ℕ}
use lib.Seq.{sets}
use Rattle.lent.proofs.FeedLaws.{three_parts}
use Rattle.lent.proofs.feed_words.store.Goals as goal

pub returns : goal.returns
returns c =
    let a = c.args in
    let old = a.words.now in
    let first = c.put_all.ensures ∙ ap (λ (n : ℕ). sets old 0 (n ∷ a.u.run.length ∷ a.u.run.ssrc ∷ [])) c.form_word.ensures in
    let second = c.put_all-2.ensures ∙ (λ i. sets (first i) 3 (c.words_of-record.ensures i)) in
    c.put_all-3.ensures
    ∙ (λ i. sets (second i) 13 (a.u.run.totals.jumped ∷ a.u.run.totals.restarts ∷ a.u.blocks ∷ a.u.kept ∷ c.end_word.ensures i ∷ []))
    ∙ three_parts old a.u
