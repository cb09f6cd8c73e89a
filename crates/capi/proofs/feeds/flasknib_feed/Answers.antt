use borrow.Author.Rules.{rules}
use mathlib.Core.Path.{sym, ap, ◌∙◌}
use native.Mathlib.Omega.{arith}
use Rattle.numbers.proofs.Signed.{seen_is}
use Rattle.walk.specs.Pieces.{Octets}
use Rattle.lent.proofs.FeedLaws.{held, words_of}
use Rattle.capi.specs.Feeds.{feed_size}
use Rattle.capi.proofs.FeedSteps.{feed_other, feed_held, feeds_as, upload_ssrc, feed_size_lem}
use Rattle.capi.proofs.feeds.flasknib_feed.Goals as goal

pub returns-in_default : goal.returns-in_default
returns-in_default c =
    let a = c.args in
    feeds_as (seen_is c.minus.result (search rules) ∙ c.minus.ensures)
    (feed_other a.upload.now a.kept.now a.stretch.now a.out.now (sym c.load.ensures ∙ c.in_default.is))

pub put_fed-requires : goal.put_fed-requires
put_fed-requires c =
    let a = c.args in
    let e = sym c.load.ensures ∙ c.in-Some.is in
    let stretch-octets : Octets a.stretch.now = λ i. omega (arith, c.type_inv.stretch i) in
    let kept-octets : Octets a.kept.now = λ i. omega (arith, c.slice_known-2-1.given i) in
    let size = feed_size_lem c.in-Some.given a.kept.now a.stretch.now a.out.now (upload_ssrc a.upload.now e) kept-octets stretch-octets in
    ((words_of a.upload.now (held a.upload.now e).0).long, omega (arith, ap feed_size c.feed.ensures.feeds.answer, size))

pub returns : goal.returns
returns c =
    let a = c.args in
    let e = sym c.load.ensures ∙ c.in-Some.is in
    feeds_as (seen_is c.put_fed.result (search rules))
    (feed_held a.upload.now a.kept.now e a.stretch.now a.out.now c.feed.ensures.feeds c.put_fed.ensures)
