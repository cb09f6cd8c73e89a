use Rattle.std.proofs.Common.{ap, ◌∙◌, w16, rules}
use mir.ValLaws.{to_z-of_z}
use Rattle.numbers.specs.Since.{signed}
use Rattle.numbers.proofs.Differences.{signed_cast}
use Rattle.numbers.proofs.since.lost_since.Goals as goal

pub returns : goal.returns
returns c =
    to_z-of_z w16 c.cast_signed.result (record { sfits = c.cast_signed.type_inv }) ∙ c.cast_signed.ensures ∙ signed_cast c.since16.result (search rules)
    ∙ ap (signed 16) c.since16.ensures
