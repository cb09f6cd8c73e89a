use mathlib.Core.Path.{◌≡◌, refl, sym, ap, ◌∙◌}
use native.Mathlib.Omega.{arith}
use Rattle.source.specs.declared.distances.Reach.{Reach}
use Rattle.source.specs.declared.Arrival.TheVariants.{Accepted}
use Rattle.source.specs.Arrivals.{distance, later_by}
use Rattle.source.specs.Distances.{reach_of}
use Rattle.source.proofs.Facts.{facts, highest_fits}
use Rattle.source.proofs.Kept.{distance_lt}
use Rattle.source.proofs.Reached.{within}
use Rattle.source.proofs.step.later.Given.{Over}
use Rattle.source.proofs.step.later.Goals.{After-reach_of}
use Rattle.source.proofs.step.later.Goals as goal

-- where the arrival stands
reached : {r : Reach} (g : Over) (c : After-reach_of g) → c.reach_of.result ≡ r
    → r ≡ reach_of (distance c.args.s.highest c.args.wire)
reached g c e = sym e ∙ c.reach_of.ensures ∙ ap reach_of c.distance.ensures

pub distance-requires : goal.distance-requires
distance-requires g c = (highest_fits c.args.s (facts c.args.s c.requires.0)).0

pub reach_of-requires : goal.reach_of-requires
reach_of-requires g c = distance_lt _ _ c.distance.ensures

pub ahead-requires : goal.ahead-requires
ahead-requires g c =
    let w = within _ (distance_lt c.args.s.highest c.args.wire refl) (reached g (goal.at.ahead-requires g c).After-reach_of c.in-Ahead.is) in
    (c.requires.0, c.requires.1, w.0, omega (arith, w.1))

pub behind-requires : goal.behind-requires
behind-requires g c =
    (c.requires.0, c.requires.1, within _ (distance_lt c.args.s.highest c.args.wire refl) (reached g (goal.at.behind-requires g c).After-reach_of c.in-Behind.is))

pub returns-in-Ahead : goal.returns-in-Ahead
returns-in-Ahead g c =
    let a = c.args in
    ap Accepted c.ahead.ensures ∙ ap (later_by a.s a.wire a.mark) (reached g (goal.at.returns-in-Ahead g c).After-reach_of c.in-Ahead.is)

pub returns-in-Behind : goal.returns-in-Behind
returns-in-Behind g c =
    let a = c.args in
    ap Accepted c.behind.ensures ∙ ap (later_by a.s a.wire a.mark) (reached g (goal.at.returns-in-Behind g c).After-reach_of c.in-Behind.is)

pub returns-in-Jump : goal.returns-in-Jump
returns-in-Jump g c =
    let a = c.args in
    c.jumped.ensures ∙ ap (later_by a.s a.wire a.mark) (reached g (goal.at.returns-in-Jump g c).After-reach_of c.in-Jump.is)
