-- Many calls of flasknib_feed on one upload, each on the words and the lent bytes that the one before left, and then flasknib_feed_close (include/flasknib.h,
-- "a trace that arrives bit by bit"; document 02, request L7).
use Rattle.std.specs.Prelude.{◌≡◌, List, [], ◌∷◌, ◌++◌, ℕ, suc, ◌^◌, ◌≤◌, ◌<◌, length, get_or, replicate, Option, Some, None}
use Rattle.answers.specs.Refusals.{number_of}
use Rattle.table.specs.Lines.{head_bytes}
use Rattle.walk.specs.Blocks.{blocks_of, joined}
use Rattle.walk.specs.Pieces.{Octets}
use Rattle.walk.specs.Programs.{Ending, to_output, walked}
use Rattle.convert.specs.Tables.{closing, ecntable, printed}
use Rattle.convert.specs.Feeds.{most_fed}
use Rattle.convert.specs.FeedTheorems.{FeedRefused, FreshLent, Enough, unfed, ending_in}
use Rattle.lent.specs.FeedWords.{upload_of}
use Rattle.capi.specs.Feeds.{words_by, fed_of, closed_of, close_code}

-- ---- the calls in turn

-- what a caller has between two calls: the words, the lent bytes, and the rows of all calls so far, joined
pub record Holding : Type 0 where
  pub words : List ℕ
  pub lent : List ℕ
  pub rows : List ℕ

-- all zero is fresh
abbrev pub zero_words : List ℕ → Holding
zero_words lent = record { words = replicate 18 0; lent = lent; rows = [] }

-- a feed more, with so many bytes lent for its rows (`FeedsWords`)
abbrev pub and_fed_words : Holding → List ℕ → ℕ → Holding
and_fed_words h stretch room =
    let g = fed_of h.words h.lent stretch room in
    record { words = words_by h.words g; lent = g.lent; rows = h.rows ++ g.rows }

-- `rooms i` bytes are lent to feed i
unfoldable pub feed_chain : (ℕ → ℕ) → ℕ → Holding → List (List ℕ) → Holding
feed_chain rooms i h [] = h
feed_chain rooms i h (x ∷ xs) = feed_chain rooms (suc i) (and_fed_words h x (rooms i)) xs

-- the words after the closing call (`ClosesWords`), which leaves the lent bytes
abbrev pub closed_words : Holding → List ℕ
closed_words h = words_by h.words (closed_of h.words h.lent)

-- ---- however a trace is cut

-- the number of a run's refusal, 0 for none
abbrev pub end_number : Option Ending → ℕ
end_number None = 0
end_number (Some e) = number_of e.refusal

-- what was fed and then closed is the run in one go: the head line, the rows joined and the line of close's refusal are what ecntable prints; close's answer is
-- the refusal, 0 for none; its block is the word of the blocks; and the run in the words is that of the walk
pub record WordsInOne (trace : List ℕ) (h : Holding) : Type 0 where
  pub prints : printed trace ≡ to_output (head_bytes ++ (h.rows ++ (closing (ending_in (closed_of h.words h.lent).answer)).out))
  pub answer : close_code (closed_of h.words h.lent).answer ≡ end_number (walked ecntable (blocks_of trace)).ended
  pub block : (e : Ending) → (walked ecntable (blocks_of trace)).ended ≡ Some e → get_or (closed_words h) 15 0 ≡ e.block
  pub run : (upload_of (closed_words h)).run ≡ (walked ecntable (blocks_of trace)).state.run

-- from words that are all zero and fresh lent bytes, for a trace of at most 2^48 bytes and where each feed has room
abbrev pub WordsPrint : Type 0
WordsPrint =
    (rooms : ℕ → ℕ) (lent : List ℕ) (xs : List (List ℕ)) → FreshLent lent → Octets (joined xs) → length (joined xs) ≤ most_fed → Enough rooms 0 (unfed lent) xs
    → WordsInOne (joined xs) (feed_chain rooms 0 (zero_words lent) xs)

-- two cuts of it end in the same words and lent bytes, with the same rows
abbrev pub WordsAgree : Type 0
WordsAgree =
    (rooms others : ℕ → ℕ) (lent : List ℕ) (xs ys : List (List ℕ)) → FreshLent lent → joined xs ≡ joined ys → Octets (joined xs) → length (joined xs) ≤ most_fed
    → Enough rooms 0 (unfed lent) xs → Enough others 0 (unfed lent) ys → feed_chain rooms 0 (zero_words lent) xs ≡ feed_chain others 0 (zero_words lent) ys

-- ---- a refusal

-- 9, 10 and 12 leave the words and the lent bytes as they were, and write nothing; the signed words have 64 bits, as their type says
abbrev pub RefusedLeavesWords : Type 0
RefusedLeavesWords =
    (h : Holding) (stretch : List ℕ) (room : ℕ) → get_or h.words 3 0 < 2 ^ 64 → get_or h.words 4 0 < 2 ^ 64
    → FeedRefused (fed_of h.words h.lent stretch room).answer → and_fed_words h stretch room ≡ h
