use mathlib.Core.Path.{◌∙◌}
use Rattle.sources.proofs.Slices.{arrive_here}
use Rattle.sources.proofs.arrive.Goals as goal

pub put-requires : goal.put-requires
put-requires c =
    let a = c.args in
    (arrive_here a.places.now a.ssrc a.wire a.mark c.find-seen.result c.arrive-next.result c.find-seen.ensures c.arrive-next.ensures).within

pub returns : goal.returns
returns c =
    let a = c.args in
    let h = arrive_here a.places.now a.ssrc a.wire a.mark c.find-seen.result c.arrive-next.result c.find-seen.ensures c.arrive-next.ensures in
    (h.answer, c.put.ensures ∙ h.places)
