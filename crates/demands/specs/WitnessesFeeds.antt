-- The hypotheses of the theorems on a trace that arrives bit by bit can be met: C1's trace, cut inside a record of its arrivals block, with nothing fed between.
use Rattle.std.specs.Prelude.{◌≡◌, true, List, [], ◌∷◌, ◌++◌, ℕ, ◌+◌, ◌≤◌, length, take, drop, replicate}
use Rattle.answers.specs.declared.Refusal.TheVariants.{Incomplete, Contents}
use Rattle.table.specs.Theorems.{row_most}
use Rattle.walk.specs.Blocks.{joined}
use Rattle.walk.specs.Pieces.{Octets}
use Rattle.convert.specs.declared.feeds.FeedAnswer.TheVariants as answer
use Rattle.convert.specs.Feeds.{fresh_upload, TakenBy, most_fed, lent_bytes, sound_upload, broken, Given, feed_of, close_of}
use Rattle.convert.specs.FeedTheorems.{FeedRefused, HasRoom, unfed, FreshLent, Enough}
use Rattle.demands.specs.Witnesses.{label, whole}

-- the lent bytes, all zero
abbrev pub zeros : List ℕ
zeros = replicate lent_bytes 0

-- the second record of the arrivals block begins with byte 528
abbrev pub cut : List (List ℕ)
cut = take 530 whole ∷ [] ∷ drop 530 whole ∷ []

abbrev pub rooms : ℕ → ℕ
rooms i = row_most

-- the first stretch, and the others together
abbrev pub stretch : List ℕ
stretch = take 530 whole

abbrev pub back : List ℕ
back = drop 530 whole

abbrev pub begun : Given
begun = feed_of fresh_upload zeros stretch row_most

-- the whole trace, with all its bytes in one feed
abbrev pub fed : Given
fed = feed_of fresh_upload zeros whole row_most

pub record MetFeeds : Type 0 where
  -- FeedsPrint, FedHoldsCount and CutsAgree
  pub same : joined cut ≡ whole
  pub fresh : FreshLent zeros
  pub bytes : Octets (joined cut)
  pub few : length (joined cut) ≤ most_fed
  pub enough : Enough rooms 0 (unfed zeros) cut
  pub again : joined cut ≡ joined (whole ∷ [])
  pub whole_enough : Enough rooms 0 (unfed zeros) (whole ∷ [])
  -- FeedInParts and FeedStaysSound
  pub sound : sound_upload fresh_upload zeros ≡ true
  pub front_bytes : Octets stretch
  pub both_few : TakenBy fresh_upload + length (stretch ++ back) ≤ most_fed
  pub front_room : HasRoom fresh_upload zeros stretch row_most
  pub back_room : HasRoom begun.upload begun.lent back row_most
  pub both_room : HasRoom fresh_upload zeros (stretch ++ back) row_most
  -- RefusedIsUnchanged: no byte is lent
  pub malformed : FeedRefused (feed_of fresh_upload [] stretch row_most).answer
  -- FeedRoomIsExact: the row has 41 bytes
  pub no_room : (feed_of fresh_upload zeros whole 0).answer ≡ answer.Room 41
  -- CloseMayGoOn, CloseRepeats
  pub closed : (close_of fed.upload fed.lent).answer ≡ answer.Length 0
  pub empty : (close_of fresh_upload zeros).answer ≡ answer.Faulty Incomplete 0 0
  -- FaultRepeats: a second label is 14 at block 1
  pub labels : Octets (label ++ label)
  pub faulty : (feed_of fresh_upload zeros (label ++ label) row_most).answer ≡ answer.Faulty Contents 1 0
  -- KeptRepeats
  pub broken : sound_upload (broken fresh_upload) zeros ≡ true
