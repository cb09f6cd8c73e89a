use Rattle.source.proofs.Facts.{facts, highest_fits}
use Rattle.source.proofs.step.ahead.Goals as goal

pub plus-next-requires : goal.plus-next-requires
plus-next-requires c =
    let f = highest_fits c.args.s (facts c.args.s c.requires.0) in
    (f.0, c.requires.3, f.1)

pub moved_on-moved-requires : goal.moved_on-moved-requires
moved_on-moved-requires c =
    (c.requires.2, (facts c.args.s c.requires.0).fits)
