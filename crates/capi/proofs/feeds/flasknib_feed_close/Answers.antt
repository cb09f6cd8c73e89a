use mathlib.Core.Path.{sym, ◌∙◌}
use Rattle.lent.proofs.FeedLaws.{held, words_of}
use Rattle.capi.proofs.FeedSteps.{close_other, close_held, closes_as}
use Rattle.capi.proofs.feeds.flasknib_feed_close.Goals as goal

pub returns-in_default : goal.returns-in_default
returns-in_default c =
    let a = c.args in
    closes_as c.number.ensures (close_other a.upload.now a.kept.now (sym c.load.ensures ∙ c.in_default.is))

pub put_closed-requires : goal.put_closed-requires
put_closed-requires c =
    let a = c.args in
    (words_of a.upload.now (held a.upload.now (sym c.load.ensures ∙ c.in-Some.is)).0).long

pub returns : goal.returns
returns c =
    let a = c.args in
    let e = sym c.load.ensures ∙ c.in-Some.is in
    close_held a.upload.now a.kept.now e c.close.ensures.closes c.put_closed.ensures
