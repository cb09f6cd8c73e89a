use mathlib.Core.Path.{◌∙◌}
use Rattle.sources.proofs.Slices.{count_here}
use Rattle.sources.proofs.count_block.Goals as goal

pub put-requires : goal.put-requires
put-requires c =
    let a = c.args in
    (count_here a.places.now a.ssrc a.width a.records.now c.find-seen.result c.count_block-next.result c.find-seen.ensures c.count_block-next.ensures).within

pub returns : goal.returns
returns c =
    let a = c.args in
    let h = count_here a.places.now a.ssrc a.width a.records.now c.find-seen.result c.count_block-next.result c.find-seen.ensures c.count_block-next.ensures in
    (h.answer, c.put.ensures ∙ h.places)
