use mathlib.Core.Path.{sym, ap₂, ◌∙◌}
use mathlib.Core.List.{[], ◌∷◌}
use Prim.Native.Nat.{ℕ}
use lib.Seq.{sets}
use Rattle.sources.specs.Places.{held_of}
use Rattle.sources.specs.Tables.{lent}
use Rattle.sources.specs.Rows.{lines_of}
use Rattle.sources.proofs.LineLaws.{lines_long}
use Rattle.lent.proofs.stream_words.store.Goals as goal

pub returns : goal.returns
unfolding lines_of
returns c =
    let a = c.args in
    let many = c.held_in-held.ensures ∙ sym (lines_long (held_of (lent a.run.table)) a.run.tallies) in
    c.put_all.ensures ∙ ap₂ (λ (x y : ℕ). sets a.words.now 0 (x ∷ a.run.length ∷ y ∷ [])) c.number_of.ensures many
