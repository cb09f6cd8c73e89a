use mathlib.Core.Path.{◌∙◌}
use mir.Syntax.{w16, w64}
use mir.ValLaws.{to_z-of_z}
use Rattle.between.specs.Differences.{signals_of}
use Rattle.between.proofs.counters.Goals as goal

pub returns : goal.returns
unfolding signals_of
returns c =
    let lost =
    to_z-of_z w64 c.from.result (record { sfits = c.from.type_inv }) ∙ c.from.ensures
    ∙ to_z-of_z w16 c.lost_since.result (record { sfits = c.lost_since.type_inv }) ∙ c.lost_since.ensures in
    let marked = c.from-2.ensures ∙ c.since16.ensures in
    λ i. record { lost = lost i; marked = marked i }
