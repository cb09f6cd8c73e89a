use borrow.Author.Rules.{rules}
use mathlib.Core.Path.{refl, sym, ap, ◌∙◌}
use lib.IntN.{pos}
use lib.Signed.{lt_z}
use Rattle.table.specs.Decimal.{decimal, signed}
use Rattle.answers.proofs.Stores.{wrote_same}
use Rattle.numbers.proofs.Signed.{seen}
use Rattle.table.proofs.Commas.{row_parts}
use Rattle.table.proofs.Minus.{signed_parts, size_of}
use Rattle.table.proofs.Faults.{highest_decimal}
use Rattle.table.specs.Parts.{minus}
use Rattle.table.proofs.lines.row.Goals as goal

pub returns : goal.returns
returns c =
    let a = c.args in
    let high = c.magnitude-high.result in
    let size = c.magnitude.result in
    let below = lt_z (seen a.lost) (pos 0) in
    let highest = highest_decimal a.t.source c.requires.1 ∙ ap decimal (sym (size_of a.t.source.highest.0 (search rules) c.magnitude-high.ensures)) in
    let lost = ap signed (sym c.requires.2) ∙ signed_parts a.lost c.ranges.lost ∙ ap (minus below) (sym (size_of a.lost c.ranges.lost c.magnitude.ensures)) in
    wrote_same refl (sym (row_parts a.label.now a.ssrc a.t high below size highest lost)) c.line.ensures
