-- The theorems on the calls of flasknib_feed are applied to values: C1's trace, cut inside a record, and an empty one. Assumes nothing.
use mathlib.Core.Path.{refl}
use mathlib.Core.List.{[], ◌∷◌}
use native.Mathlib.Omega.{arith}
use lib.ListN.{replicate}
use Rattle.answers.specs.declared.Refusal.TheVariants.{Incomplete}
use Rattle.source.specs.Record.{fresh}
use Rattle.trace.specs.Reading.{block_of}
use Rattle.trace.specs.Places.{zeroth_of}
use Rattle.walk.specs.Blocks.{cut as cut_in, blocks_of}
use Rattle.walk.specs.Programs.{onward, walk, walked}
use Rattle.convert.specs.Runs.{start_of}
use Rattle.convert.specs.Feeds.{sound_upload, feed_of}
use Rattle.convert.specs.FeedTheorems.{Enough}
use Rattle.lent.specs.RunWords.{run_with}
use Rattle.lent.specs.SourceWords.{source_with}
use Rattle.lent.specs.FeedWords.{upload_with}
use Rattle.capi.specs.Feeds.{fed_of}
use Rattle.capi.proofs.FeedChains.{words_print, words_agree, refused_leaves_words}
use Rattle.demands.specs.Witnesses.{whole}
use Rattle.demands.specs.WitnessesFeeds.{zeros, cut, rooms}
use Rattle.demands.proofs.WitnessesFeeds.{met_feeds}

used : Unit {0}
unfolding block_of zeroth_of cut_in blocks_of onward walk walked start_of Enough fed_of feed_of sound_upload upload_with run_with source_with fresh
used =
    let m = met_feeds in
    let prints = words_print rooms zeros cut m.fresh m.bytes m.few m.enough in
    let empty = words_print rooms zeros [] m.fresh (λ i. omega arith) (omega arith) tt in
    let block = empty.block (record { refusal = Incomplete; block = 0 }) refl in
    let agree = words_agree rooms rooms zeros cut (whole ∷ []) m.fresh m.again m.bytes m.few m.enough m.whole_enough in
    let leaves = refused_leaves_words (record { words = replicate 18 0; lent = []; rows = [] }) [] 0 (omega arith) (omega arith) tt in
    tt
