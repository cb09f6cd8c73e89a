-- What holds of the feeds of a trace (document 02, request L7).
use Rattle.std.specs.Prelude.{◌≡◌, true, List, [], ◌∷◌, ◌++◌, ℕ, suc, ◌+◌, ◌≤◌, ◌<◌, length, take, Option, Some, None}
use Rattle.answers.specs.declared.Refusal.{Refusal}
use Rattle.answers.specs.declared.Refusal.TheVariants.{Incomplete}
use Rattle.table.specs.Lines.{head_bytes}
use Rattle.trace.specs.Contents.{every, is_zero}
use Rattle.walk.specs.Blocks.{blocks_of, joined}
use Rattle.walk.specs.Pieces.{Octets}
use Rattle.walk.specs.Programs.{Ending, to_output, walked}
use Rattle.convert.specs.declared.feeds.Upload.{Upload}
use Rattle.convert.specs.declared.feeds.FeedAnswer.{FeedAnswer}
use Rattle.convert.specs.declared.feeds.FeedAnswer.TheVariants as answer
use Rattle.convert.specs.Tables.{closing, ecntable, printed}
use Rattle.convert.specs.Feeds.{fresh_upload, TakenBy, most_fed, lent_bytes, sound_upload, completed, rest_in, bytes_at, broken, Given, unchanged, repeated, fed_by, feed_of, close_of}

-- ---- a refusal

-- 9, 10 and 12 change nothing
abbrev pub FeedRefused : FeedAnswer → Type 0
FeedRefused (answer.Length n) = ⊥
FeedRefused (answer.Room n) = Unit {0}
FeedRefused (answer.Refused refusal) = Unit {0}
FeedRefused (answer.Faulty refusal block n) = ⊥

abbrev pub RefusedIsUnchanged : Type 0
RefusedIsUnchanged =
    (u : Upload) (lent stretch : List ℕ) (room : ℕ) → FeedRefused (feed_of u lent stretch room).answer → feed_of u lent stretch room ≡ unchanged u lent (feed_of u lent stretch room).answer

-- 12 is exact: with that many bytes or more the same call writes the rows, as many bytes as was said, and with fewer it gives 12 again
pub record RoomForFeed (u : Upload) (lent stretch : List ℕ) (n : ℕ) : Type 0 where
  pub long : length (completed u lent (bytes_at u lent stretch)).printed.out ≡ n
  pub enough : (room : ℕ) → n ≤ room → feed_of u lent stretch room ≡ fed_by u lent (rest_in (bytes_at u lent stretch)) (completed u lent (bytes_at u lent stretch))
  pub fewer : (room : ℕ) → room < n → feed_of u lent stretch room ≡ unchanged u lent (answer.Room n)

abbrev pub FeedRoomIsExact : Type 0
FeedRoomIsExact = (u : Upload) (lent stretch : List ℕ) (room n : ℕ) → (feed_of u lent stretch room).answer ≡ answer.Room n → RoomForFeed u lent stretch n

-- a closing call leaves the lent bytes, and changes nothing but that the refusal 1 is kept
pub data ClosedBy (u : Upload) (lent : List ℕ) (g : Given) : Type 0 where
  same : g ≡ unchanged u lent g.answer → ClosedBy u lent g
  breaks : u.ended ≡ None → g ≡ unchanged (broken u) lent (answer.Faulty Incomplete u.blocks 0) → ClosedBy u lent g

abbrev pub CloseChanges : Type 0
CloseChanges = (u : Upload) (lent : List ℕ) → ClosedBy u lent (close_of u lent)

-- one that refuses nothing changes nothing
abbrev pub CloseMayGoOn : Type 0
CloseMayGoOn = (u : Upload) (lent : List ℕ) (n : ℕ) → (close_of u lent).answer ≡ answer.Length n → close_of u lent ≡ unchanged u lent (answer.Length n)

-- ---- a refusal of the trace's is kept: every later call repeats it with its block and length 0, and changes nothing

pub record Repeats (g : Given) (refusal : Refusal) (block : ℕ) : Type 0 where
  pub feeds : (stretch : List ℕ) (room : ℕ) → feed_of g.upload g.lent stretch room ≡ unchanged g.upload g.lent (answer.Faulty refusal block 0)
  pub closes : close_of g.upload g.lent ≡ unchanged g.upload g.lent (answer.Faulty refusal block 0)

abbrev pub KeptRepeats : Type 0
KeptRepeats =
    (u : Upload) (lent : List ℕ) (refusal : Refusal) → sound_upload u lent ≡ true → u.ended ≡ Some refusal → Repeats (repeated u lent refusal) refusal u.blocks

abbrev pub FaultRepeats : Type 0
FaultRepeats =
    (u : Upload) (lent stretch : List ℕ) (room : ℕ) (refusal : Refusal) (block n : ℕ) → Octets lent → Octets stretch
    → (feed_of u lent stretch room).answer ≡ answer.Faulty refusal block n → Repeats (feed_of u lent stretch room) refusal block

abbrev pub CloseRepeats : Type 0
CloseRepeats = (u : Upload) (lent : List ℕ) (refusal : Refusal) (block n : ℕ) → (close_of u lent).answer ≡ answer.Faulty refusal block n → Repeats (close_of u lent) refusal block

-- ---- however a trace is cut

-- an answer with the length of the rows before its own
abbrev pub with_before : ℕ → FeedAnswer → FeedAnswer
with_before n (answer.Length m) = answer.Length (n + m)
with_before n (answer.Room m) = answer.Room m
with_before n (answer.Refused refusal) = answer.Refused refusal
with_before n (answer.Faulty refusal block m) = answer.Faulty refusal block (n + m)

pub record AsOne (first second both : Given) : Type 0 where
  pub answer : with_before (length first.rows) second.answer ≡ both.answer
  pub upload : second.upload ≡ both.upload
  pub lent : second.lent ≡ both.lent
  pub rows : first.rows ++ second.rows ≡ both.rows

abbrev pub HasRoom : Upload → List ℕ → List ℕ → ℕ → Type 0
HasRoom u lent stretch room = length (completed u lent (bytes_at u lent stretch)).printed.out ≤ room

-- from every state: a feed of s and then of t is a feed of s ++ t, where each has room and both together do not pass 2^48 bytes
abbrev pub FeedInParts : Type 0
FeedInParts =
    (u : Upload) (lent s t : List ℕ) (a b c : ℕ) → Octets lent → Octets s → TakenBy u + length (s ++ t) ≤ most_fed
    → let first = feed_of u lent s a in
    HasRoom u lent s a → HasRoom first.upload first.lent t b → HasRoom u lent (s ++ t) c → AsOne first (feed_of first.upload first.lent t b) (feed_of u lent (s ++ t) c)

-- a sound upload stays sound
abbrev pub FeedStaysSound : Type 0
FeedStaysSound =
    (u : Upload) (lent stretch : List ℕ) (room : ℕ) → Octets lent → Octets stretch → sound_upload u lent ≡ true
    → sound_upload (feed_of u lent stretch room).upload (feed_of u lent stretch room).lent ≡ true

-- ---- a whole trace, in stretches: `rooms i` bytes are lent to feed i

-- before the first
abbrev pub unfed : List ℕ → Given
unfed lent = unchanged fresh_upload lent (answer.Length 0)

pub record FreshLent (lent : List ℕ) : Type 0 where
  pub long : lent_bytes ≤ length lent
  pub zeros : every is_zero (take lent_bytes lent) ≡ true
  pub bytes : Octets lent

-- one feed more
abbrev pub and_fed : Given → List ℕ → ℕ → Given
and_fed g stretch room =
    let h = feed_of g.upload g.lent stretch room in
    record { answer = h.answer; upload = h.upload; lent = h.lent; rows = g.rows ++ h.rows }

unfoldable pub feed_all : (ℕ → ℕ) → ℕ → Given → List (List ℕ) → Given
feed_all rooms i g [] = g
feed_all rooms i g (x ∷ xs) = feed_all rooms (suc i) (and_fed g x (rooms i)) xs

-- each has room
unfoldable pub Enough : (ℕ → ℕ) → ℕ → Given → List (List ℕ) → Type 0
Enough rooms i g [] = Unit {0}
Enough rooms i g (x ∷ xs) = HasRoom g.upload g.lent x (rooms i) × Enough rooms (suc i) (and_fed g x (rooms i)) xs

-- the refusal that a closing call gives, with its block
abbrev pub ending_in : FeedAnswer → Option Ending
ending_in (answer.Length n) = None
ending_in (answer.Room n) = None
ending_in (answer.Refused refusal) = None
ending_in (answer.Faulty refusal block n) = Some (record { refusal = refusal; block = block })

-- a closing call's answer to a run that ended so
abbrev pub closed_as : Option Ending → FeedAnswer
closed_as None = answer.Length 0
closed_as (Some e) = answer.Faulty e.refusal e.block 0

-- what was fed and then closed is the run in one go: the head line, the rows joined and the line of the refusal are what ecntable prints, and the run, the
-- refusal and its block are those of the walk
pub record RunInOne (trace : List ℕ) (fed closed : Given) : Type 0 where
  pub prints : printed trace ≡ to_output (head_bytes ++ (fed.rows ++ (closing (ending_in closed.answer)).out))
  pub run : closed.upload.run ≡ (walked ecntable (blocks_of trace)).state.run
  pub answer : closed.answer ≡ closed_as (walked ecntable (blocks_of trace)).ended

-- however a trace of at most 2^48 bytes is cut
abbrev pub FeedsPrint : Type 0
FeedsPrint =
    (rooms : ℕ → ℕ) (lent : List ℕ) (xs : List (List ℕ)) → FreshLent lent → Octets (joined xs) → length (joined xs) ≤ most_fed → Enough rooms 0 (unfed lent) xs
    → let g = feed_all rooms 0 (unfed lent) xs in
    RunInOne (joined xs) g (close_of g.upload g.lent)

-- two cuts of a trace end in the same upload and lent bytes, and have written the same rows
pub record SameEnd (g h : Given) : Type 0 where
  pub upload : g.upload ≡ h.upload
  pub lent : g.lent ≡ h.lent
  pub rows : g.rows ≡ h.rows

abbrev pub CutsAgree : Type 0
CutsAgree =
    (rooms others : ℕ → ℕ) (lent : List ℕ) (xs ys : List (List ℕ)) → FreshLent lent → joined xs ≡ joined ys → Octets (joined xs) → length (joined xs) ≤ most_fed
    → Enough rooms 0 (unfed lent) xs → Enough others 0 (unfed lent) ys → SameEnd (feed_all rooms 0 (unfed lent) xs) (feed_all others 0 (unfed lent) ys)
