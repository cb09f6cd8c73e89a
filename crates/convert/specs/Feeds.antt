-- Document 02, request L7: a trace that arrives bit by bit. An upload is fed stretches of it. The first 1,024 lent bytes are block 0 and then what is kept of
-- the next block, block 0's own too; those that stand after them are left alone.
use Rattle.std.specs.Prelude.{◌≡◌, Bool, true, false, cond, not, ◌&&◌, ◌||◌, List, [], ◌∷◌, ◌++◌, ℕ, zero, suc, ◌+◌, ◌-◌, ◌*◌, ◌^◌, eqb, leb, ltb, length, take, drop, replicate, Option, Some, None, Result, Ok, Err}
use Rattle.answers.specs.Conditions.{all}
use Rattle.answers.specs.Refusals.{number_of}
use Rattle.answers.specs.declared.Refusal.{Refusal}
use Rattle.answers.specs.declared.Refusal.TheVariants.{Incomplete, Malformed, Limits}
use Rattle.format.specs.Blocks.{block_bytes}
use Rattle.format.specs.Forms.{same_form}
use Rattle.source.specs.Record.{fresh}
use Rattle.trace.specs.Contents.{every, is_zero}
use Rattle.trace.specs.Places.{zeroth_of}
use Rattle.trace.specs.declared.Zeroth.{Zeroth}
use Rattle.walk.specs.Programs.{nothing, Turn, Program}
use Rattle.walk.specs.Pieces.{wholes, whole_in}
use Rattle.walk.specs.Fitting.{Took, front}
use Rattle.convert.specs.declared.Run.{Run}
use Rattle.convert.specs.declared.feeds.Upload.{Upload}
use Rattle.convert.specs.declared.feeds.FeedAnswer.{FeedAnswer}
use Rattle.convert.specs.declared.feeds.FeedAnswer.TheVariants as answer
use Rattle.convert.specs.declared.feeds.Fed.{Fed}
use Rattle.convert.specs.Runs.{start_of, sound_totals}
use Rattle.convert.specs.Tables.{Kept, no_run, ecntable}

-- ---- the state

-- before the first stretch
abbrev pub fresh_upload : Upload
fresh_upload = record { run = no_run; blocks = 0; kept = 0; ended = None }

-- the bytes taken in all, at most 2^48
abbrev pub TakenBy : Upload → ℕ
TakenBy u = block_bytes * u.blocks + u.kept

abbrev pub most_fed : ℕ
most_fed = 2 ^ 48

-- the lent bytes: block 0, the place of the next block, and what is kept of that
abbrev pub lent_bytes : ℕ
lent_bytes = 1024

abbrev pub zeroth_in : List ℕ → List ℕ
zeroth_in lent = take block_bytes lent

abbrev pub part_in : List ℕ → List ℕ
part_in lent = take block_bytes (drop block_bytes lent)

abbrev pub kept_in : Upload → List ℕ → List ℕ
kept_in u lent = take u.kept (part_in lent)

-- and what they become: zeros stand after what is kept
abbrev pub padded : List ℕ → List ℕ
padded kept = kept ++ replicate (block_bytes - length kept) 0

abbrev pub lent_of : List ℕ → List ℕ → List ℕ → List ℕ
lent_of zeroth kept lent = zeroth ++ (padded kept ++ drop lent_bytes lent)

-- ---- when it is malformed, 9

-- the run that a refused label leaves
abbrev pub is_no_run : Run → List Bool
is_no_run run =
    same_form run.form no_run.form
    ∷ eqb run.length 0
    ∷ eqb run.ssrc 0
    ∷ fresh run.totals.source
    ∷ eqb run.totals.jumped 0
    ∷ eqb run.totals.restarts 0
    ∷ []

-- block 0 reads as a label of the run's form, length and SSRC
abbrev pub own_by : Run → Result Zeroth Refusal → Bool
own_by run (Ok label) = all (same_form label.form run.form ∷ eqb label.length run.length ∷ eqb label.ssrc run.ssrc ∷ [])
own_by run (Err refusal) = false

-- while no block is taken, the run and block 0's place are not in use; then they are a sound run and its label
abbrev pub run_ok : Run → List ℕ → Bool → Bool
run_ok run zeroth true = all (is_no_run run) && every is_zero zeroth
run_ok run zeroth false = own_by run (zeroth_of zeroth) && all (sound_totals run.totals)

-- no refusal is kept, or one of a trace's blocks: 1, 13 or 14
abbrev pub is_fault : Refusal → Bool
is_fault refusal = eqb (number_of refusal) 1 || (eqb (number_of refusal) 13 || eqb (number_of refusal) 14)

abbrev pub keepable : Option Refusal → Bool
keepable None = true
keepable (Some refusal) = is_fault refusal

abbrev pub upload_conditions : Upload → List ℕ → List Bool
upload_conditions u lent =
    leb lent_bytes (length lent)
    ∷ ltb u.kept block_bytes
    ∷ leb (TakenBy u) most_fed
    ∷ every is_zero (drop u.kept (part_in lent))
    ∷ run_ok u.run (zeroth_in lent) (eqb u.blocks 0)
    ∷ keepable u.ended
    ∷ []

unfoldable pub sound_upload : Upload → List ℕ → Bool
sound_upload u lent = all (upload_conditions u lent)

-- ---- the blocks

-- block 0 starts the run and prints nothing, since the caller prints the head line; one that is refused leaves all as it was
abbrev pub labelled : Kept → List ℕ → Result Run Refusal → Turn Kept
labelled k b (Ok run) = record { state = record { run = run; zeroth = b }; printed = nothing; refusal = None }
labelled k b (Err refusal) = record { state = k; printed = nothing; refusal = Some refusal }

-- each later block prints its row, as in ecntable
abbrev pub turn_at : ℕ → Kept → List ℕ → Turn Kept
turn_at zero k b = labelled k b (start_of b)
turn_at (suc i) k b = ecntable.step (suc i) k b

abbrev pub feeding : Program Kept
feeding = record { begin = ecntable.begin; step = turn_at; close = ecntable.close }

-- all of them in turn, to the first that is refused
abbrev pub through : {S : Type 0} → Program S → ℕ → List (List ℕ) → S → Took S
through p i bs s = front p i (length bs) bs s

-- those that a stretch completes, where `bytes` are what was kept and the stretch
abbrev pub held_by : Upload → List ℕ → Kept
held_by u lent = record { run = u.run; zeroth = zeroth_in lent }

unfoldable pub completed : Upload → List ℕ → List ℕ → Took Kept
completed u lent bytes = through feeding u.blocks (whole_in bytes) (held_by u lent)

-- and what is left of these bytes
unfoldable pub rest_in : List ℕ → List ℕ
rest_in bytes = drop (block_bytes * wholes bytes) bytes

-- ---- what a call gives: its answer, the upload and the lent bytes after it, and the rows at the front of the output

pub record Given : Type 0 where
  pub answer : FeedAnswer
  pub upload : Upload
  pub lent : List ℕ
  pub rows : List ℕ

abbrev pub unchanged : Upload → List ℕ → FeedAnswer → Given
unchanged u lent a = record { answer = a; upload = u; lent = lent; rows = [] }

-- a kept refusal is repeated, with its block and length 0
abbrev pub repeated : Upload → List ℕ → Refusal → Given
repeated u lent refusal = unchanged u lent (answer.Faulty refusal u.blocks 0)

-- ---- a feed: 9, the kept refusal, 10, 12, the trace's own

-- a block that is refused is reported with its number and the length of the rows before it
abbrev pub answer_by : ℕ → ℕ → Option Refusal → FeedAnswer
answer_by block n None = answer.Length n
answer_by block n (Some refusal) = answer.Faulty refusal block n

-- nothing is kept after it
abbrev pub left_by : List ℕ → Option Refusal → List ℕ
left_by rest None = rest
left_by rest (Some refusal) = []

-- `w` is what the blocks do, and `rest` what is left after them
abbrev pub fed_by : Upload → List ℕ → List ℕ → Took Kept → Given
fed_by u lent rest w = record {
  answer = answer_by (u.blocks + w.taken) (length w.printed.out) w.refusal;
  upload = record { run = w.state.run; blocks = u.blocks + w.taken; kept = length (left_by rest w.refusal); ended = w.refusal };
  lent = lent_of w.state.zeroth (left_by rest w.refusal) lent;
  rows = w.printed.out;
}

abbrev pub in_room : Upload → List ℕ → List ℕ → Took Kept → ℕ → Given
in_room u lent rest w room =
    cond (ltb room (length w.printed.out)) (unchanged u lent (answer.Room (length w.printed.out)))
    (fed_by u lent rest w)

abbrev pub bytes_at : Upload → List ℕ → List ℕ → List ℕ
bytes_at u lent stretch = kept_in u lent ++ stretch

-- 10 past 2^48 bytes
abbrev pub in_limits : Upload → List ℕ → List ℕ → ℕ → Given
in_limits u lent stretch room =
    cond (ltb most_fed (TakenBy u + length stretch)) (unchanged u lent (answer.Refused Limits))
    (in_room u lent (rest_in (bytes_at u lent stretch)) (completed u lent (bytes_at u lent stretch)) room)

abbrev pub feed_by : Upload → List ℕ → List ℕ → ℕ → Option Refusal → Given
feed_by u lent stretch room (Some refusal) = repeated u lent refusal
feed_by u lent stretch room None = in_limits u lent stretch room

-- 9 first of all
unfoldable pub feed_of : Upload → List ℕ → List ℕ → ℕ → Given
feed_of u lent stretch room = cond (not (sound_upload u lent)) (unchanged u lent (answer.Refused Malformed)) (feed_by u lent stretch room u.ended)

-- ---- a closing call: 9, the kept refusal, and 1 at a partial block or at block 0 of an empty trace, which is kept

abbrev pub ends_whole : Upload → Bool
ends_whole u = eqb u.kept 0 && not (eqb u.blocks 0)

-- 1 is kept
abbrev pub broken : Upload → Upload
broken u = record { run = u.run; blocks = u.blocks; kept = u.kept; ended = Some Incomplete }

-- the kept refusal, then 1
abbrev pub close_by : Upload → List ℕ → Option Refusal → Given
close_by u lent (Some refusal) = repeated u lent refusal
close_by u lent None = cond (ends_whole u) (unchanged u lent (answer.Length 0)) (unchanged (broken u) lent (answer.Faulty Incomplete u.blocks 0))

-- 9 first of all
unfoldable pub close_of : Upload → List ℕ → Given
close_of u lent = cond (not (sound_upload u lent)) (unchanged u lent (answer.Refused Malformed)) (close_by u lent u.ended)

-- ---- what the calls promise: `old` is the lent output before the call

pub record Feeds (g : Given) (old : List ℕ) (r : Fed) (lent out : List ℕ) : Type 0 where
  pub answer : r.answer ≡ g.answer
  pub upload : r.upload ≡ g.upload
  pub keeps : lent ≡ g.lent
  pub stores : out ≡ g.rows ++ drop (length g.rows) old

pub record Closes (g : Given) (r : Fed) : Type 0 where
  pub answer : r.answer ≡ g.answer
  pub upload : r.upload ≡ g.upload
