-- What the functions of a trace that arrives bit by bit answer, and what they leave in what they were lent (include/flasknib.h,
-- "a trace that arrives bit by bit").
use Rattle.std.specs.Prelude.{ℕ, ◌+◌, ◌*◌, ◌≡◌, cond, List, ◌++◌, ℤ, pos, neg_ℤ, length, drop}
use Rattle.answers.specs.Refusals.{number_of, room_number}
use Rattle.answers.specs.declared.Refusal.TheVariants.{Malformed}
use Rattle.convert.specs.declared.feeds.FeedAnswer.{FeedAnswer}
use Rattle.convert.specs.declared.feeds.FeedAnswer.TheVariants as answer
use Rattle.convert.specs.Numbered.{feed_as}
use Rattle.convert.specs.Feeds.{Given, unchanged, feed_of, close_of}
use Rattle.lent.specs.FeedWords.{upload_of, is_upload, feed_words}

-- the words after a call: those of the upload after it; words that are no upload's are left as they were
abbrev pub words_by : List ℕ → Given → List ℕ
words_by words g = cond (is_upload words) (feed_words g.upload) words

-- ---- flasknib_feed

-- what a stretch does to the upload in the words; words that are no upload's are refused with 9, before everything else
unfoldable pub fed_of : List ℕ → List ℕ → List ℕ → ℕ → Given
fed_of words lent stretch room =
    cond (is_upload words) (feed_of (upload_of words) lent stretch room)
    (unchanged (upload_of words) lent (answer.Refused Malformed))

-- the length of the rows, or minus the refusal; 256 times, with 12 the bytes that they would take, and with a block's refusal those that the rows before it
-- took
abbrev pub feed_code : FeedAnswer → ℤ
feed_code (answer.Length n) = pos n
feed_code (answer.Room n) = neg_ℤ (pos (256 * n + room_number))
feed_code (answer.Refused refusal) = neg_ℤ (pos (number_of refusal))
feed_code (answer.Faulty refusal block n) = neg_ℤ (pos (256 * n + number_of refusal))

-- that length
abbrev pub feed_size : FeedAnswer → ℕ
feed_size (answer.Length n) = n
feed_size (answer.Room n) = n
feed_size (answer.Refused refusal) = 0
feed_size (answer.Faulty refusal block n) = n

-- request L7, a feed: 9, the kept refusal, 10, 12, the trace's own; or the rows, what is kept of the next block, and the upload
pub record FeedsWords (words lent stretch old : List ℕ) (r : ℤ) (left kept out : List ℕ) : Type 0 where
  pub answers : r ≡ feed_code (fed_of words lent stretch (length old)).answer
  pub keeps : left ≡ words_by words (fed_of words lent stretch (length old))
  pub holds : kept ≡ (fed_of words lent stretch (length old)).lent
  pub stores : out ≡ (fed_of words lent stretch (length old)).rows ++ drop (length (fed_of words lent stretch (length old)).rows) old

-- ---- flasknib_feed_close

-- 9 first of all, as for a feed
unfoldable pub closed_of : List ℕ → List ℕ → Given
closed_of words lent = cond (is_upload words) (close_of (upload_of words) lent) (unchanged (upload_of words) lent (answer.Refused Malformed))

-- 0, or a refusal: the paper's number
abbrev pub close_code : FeedAnswer → ℕ
close_code told = (feed_as told).number

-- request L7, a closing call: 9, the kept refusal, 1; or 0, and the upload
pub record ClosesWords (words lent : List ℕ) (r : ℕ) (left : List ℕ) : Type 0 where
  pub answers : r ≡ close_code (closed_of words lent).answer
  pub keeps : left ≡ words_by words (closed_of words lent)
