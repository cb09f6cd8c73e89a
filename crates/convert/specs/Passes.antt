-- The passes over the blocks that a feed completes: contracts of the functions in `feed_passes`.
use Rattle.answers.specs.declared.Unwritten.{Unwritten}
use Rattle.std.specs.Prelude.{◌≡◌, true, cond, List, ◌∷◌, ℕ, zero, suc, ◌+◌, ◌-◌, ◌*◌, ◌/◌, ◌^◌, ◌≤◌, ◌<◌, length, replicate, ltb, Option, Result, Ok, Err}
use Rattle.std.proofs.lemmas.List.Edits.{sets}
use Rattle.answers.specs.Writers.{Wrote}
use Rattle.answers.specs.declared.Refusal.{Refusal}
use Rattle.format.specs.Blocks.{block_bytes}
use Rattle.table.specs.Theorems.{row_most}
use Rattle.walk.specs.Steps.{Next, goes, refuses, fault_in}
use Rattle.walk.specs.Puts.{WasRefused}
use Rattle.walk.specs.Pieces.{whole_in}
use Rattle.walk.specs.Fitting.{Took}
use Rattle.convert.specs.declared.Run.{Run}
use Rattle.convert.specs.declared.feeds.Upload.{Upload}
use Rattle.convert.specs.declared.feed_passes.Passed.{Passed}
use Rattle.convert.specs.Runs.{sound_run}
use Rattle.convert.specs.Tables.{Kept, ecntable}
use Rattle.convert.specs.declared.feeds.Fed.{Fed}
use Rattle.convert.specs.declared.feeds.FeedAnswer.TheVariants as answer
use Rattle.convert.specs.Feeds.{lent_bytes, zeroth_in, part_in, padded, most_fed, sound_upload, feeding, through, held_by, completed, rest_in, Given, unchanged, answer_by, left_by, fed_by, in_room, bytes_at}

-- ---- a block

-- the run after it: a refused one leaves the run that was given
abbrev pub moved_to : Run → Next Run → Run
moved_to given (goes next) = next
moved_to given (refuses refusal) = given

-- the row is written if there is room for it, and the run is the next one in any case
pub record Forwarded (given : Run) (next : Next Run) (bytes old : List ℕ) (answer : Result ℕ Unwritten) (state : Run) (out : List ℕ) : Type 0 where
  pub wrote : Wrote (fault_in next) bytes old answer out
  pub after : state ≡ moved_to given next

pub record WasMoved (next : Next Run) (bytes old : List ℕ) (at n : ℕ) (state : Run) (out : List ℕ) : Type 0 where
  pub does : next ≡ goes state
  pub long : n ≡ length bytes
  pub stores : at + n ≤ length old → out ≡ sets old at bytes

abbrev pub MovedBy : Next Run → List ℕ → List ℕ → ℕ → List ℕ → Result (Run × ℕ) Refusal → Type 0
MovedBy next bytes old at out (Ok (state, n)) = WasMoved next bytes old at n state out
MovedBy next bytes old at out (Err refusal) = WasRefused next refusal old out

-- ---- the blocks of a piece

-- the rows of 2^48 bytes, and what stands before them, have a length of 64 bits
pub record Passable (start : Run) (zeroth piece : List ℕ) (from : ℕ) : Type 0 where
  pub sound : sound_run start zeroth ≡ true
  pub short : length piece ≤ most_fed
  pub small : from ≤ row_most

-- `all` is what they do, from a place of the output on
pub record PassedBy (all : Took Kept) (s : Kept) (bytes from used : ℕ) (o : Option Refusal) (old out : List ℕ) : Type 0 where
  pub state : all.state ≡ s
  pub taken : block_bytes * all.taken ≡ bytes
  pub refusal : all.refusal ≡ o
  pub long : from + length all.printed.out ≡ used
  pub few : used ≤ from + row_most * all.taken
  pub stores : used ≤ length old → out ≡ sets old from all.printed.out

pub record PassesAll (start : Run) (zeroth piece old : List ℕ) (from : ℕ) (r : Passed) (out : List ℕ) : Type 0 where
  pub sound : sound_run r.run zeroth ≡ true
  pub passed : (first : ℕ) → PassedBy (through ecntable first (whole_in piece) (record { run = start; zeroth = zeroth })) (record { run = r.run; zeroth = zeroth }) r.bytes from r.used r.ended old out

-- the same, of the run alone, from the front of the output on
pub record Passes (all : Took Kept) (old : List ℕ) (r : Passed) (out : List ℕ) : Type 0 where
  pub run : all.state.run ≡ r.run
  pub taken : block_bytes * all.taken ≡ r.bytes
  pub refusal : all.refusal ≡ r.ended
  pub long : length all.printed.out ≡ r.used
  pub few : length all.printed.out ≤ row_most * all.taken
  pub stores : r.used ≤ length old → out ≡ sets old 0 all.printed.out

-- a pass over the block in the place of the next one, and the bytes after it
pub record Ready (u : Upload) (lent rest : List ℕ) : Type 0 where
  pub long : lent_bytes ≤ length lent
  pub short : length rest ≤ most_fed
  pub sound : 1 ≤ u.blocks → sound_run u.run (zeroth_in lent) ≡ true

-- ---- the upload after a pass

-- block 0 is stored at its place once it is taken
abbrev pub label_moved : ℕ → ℕ → List ℕ → List ℕ
label_moved (suc i) bytes lent = lent
label_moved zero zero lent = lent
label_moved zero (suc n) lent = sets lent 0 (part_in lent)

pub record Settleable (u : Upload) (lent rest : List ℕ) (passed : Passed) : Type 0 where
  pub long : lent_bytes ≤ length lent
  pub few : block_bytes * u.blocks ≤ most_fed
  pub bytes : passed.bytes ≤ 2 ^ 50

abbrev pub kept_of : List ℕ → Passed → List ℕ
kept_of rest passed = left_by (rest_in rest) passed.ended

pub record Settled (u : Upload) (lent rest : List ℕ) (passed : Passed) (r : Fed) (after : List ℕ) : Type 0 where
  pub answer : r.answer ≡ answer_by (u.blocks + passed.bytes / block_bytes) passed.used passed.ended
  pub upload : r.upload ≡ record { run = passed.run; blocks = u.blocks + passed.bytes / block_bytes; kept = length (kept_of rest passed); ended = passed.ended }
  pub keeps : after ≡ sets (label_moved u.blocks passed.bytes lent) block_bytes (padded (kept_of rest passed))

-- ---- a block that a stretch completed, and the bytes after it

-- what the blocks do
abbrev pub done_by : Upload → List ℕ → List ℕ → Took Kept
done_by u lent rest = through feeding u.blocks (part_in lent ∷ whole_in rest) (held_by u lent)

-- what is found to be enough is, and what is not is exact
pub record Wanted (u : Upload) (lent rest : List ℕ) (room n : ℕ) : Type 0 where
  pub enough : n ≤ room → length (done_by u lent rest).printed.out ≤ room
  pub exact : room < n → n ≡ length (done_by u lent rest).printed.out

pub record CanAdd (u : Upload) (lent rest : List ℕ) : Type 0 where
  pub ready : Ready u lent rest
  pub few : block_bytes * u.blocks ≤ most_fed
  pub kept : u.kept < block_bytes

-- 12 leaves zeros after what was kept
abbrev pub added_by : Upload → List ℕ → List ℕ → ℕ → Given
added_by u lent rest room =
    cond (ltb room (length (done_by u lent rest).printed.out))
    (unchanged u (sets lent (block_bytes + u.kept) (replicate (block_bytes - u.kept) 0)) (answer.Room (length (done_by u lent rest).printed.out)))
    (fed_by u lent (rest_in rest) (done_by u lent rest))

pub record CanComplete (u : Upload) (lent stretch : List ℕ) : Type 0 where
  pub sound : sound_upload u lent ≡ true
  pub short : length stretch ≤ most_fed
  pub long : block_bytes ≤ u.kept + length stretch

abbrev pub room_of : Upload → List ℕ → List ℕ → ℕ → Given
room_of u lent stretch room = in_room u lent (rest_in (bytes_at u lent stretch)) (completed u lent (bytes_at u lent stretch)) room

-- a stretch that completes none
abbrev pub kept_more : Upload → ℕ → Upload
kept_more u n = record { run = u.run; blocks = u.blocks; kept = u.kept + n; ended = u.ended }
