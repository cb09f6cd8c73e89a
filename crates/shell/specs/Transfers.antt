-- How far a program over a trace has come, and how each step changes that. Assumes nothing.
use Rattle.answers.specs.declared.Refusal.{Refusal}
use Rattle.std.specs.Prelude.{◌≡◌, Bool, cond, ◌&&◌, List, ℕ, ◌+◌, ◌-◌, ◌%◌, min, ltb, pos, length, take, drop, Option}
use Rattle.walk.specs.Endings.{is_going}
use Rattle.shell.specs.Fills.{Filled, end_of}
use Rattle.shell.specs.Kept.{empty_of, Moved}
use Rattle.shell.specs.declared.printing.Output.{Output}
use Rattle.shell.specs.declared.reading.Input.{Input}
use Rattle.shell.specs.declared.transfers.Transfer.{Transfer}

-- ---- what is left of a piece

-- what was read of it, but for the bytes that are taken
abbrev pub left_of : Transfer → List ℕ → List ℕ
left_of t piece = drop t.from (take t.input.bytes piece)

-- the same at the end: after a failed read one byte more, unless a part of a block was read
abbrev pub rest_of : Transfer → List ℕ → List ℕ
rest_of t piece = drop t.from (take (end_of t.input) piece)

-- ---- the steps

-- after block 0, which stood in a buffer of its own: nothing is left of a piece; standard output is 1, standard error 2
abbrev pub begun_of : Input → Option Refusal → Bool → Transfer
begun_of zeroth ended prompt =
    record { input = record { bytes = 0; ahead = zeroth.ahead }; from = 0; going = is_going ended; prompt = prompt; out = empty_of (pos 1); err = empty_of (pos 2) }

-- after a read: all that stands in the piece is left
abbrev pub read_of : Transfer → Input → Transfer
read_of t input = record { input = input; from = 0; going = t.going; prompt = t.prompt; out = t.out; err = t.err }

-- one read, after what is left: that stands at the front of the piece now
pub record Brought (t : Transfer) (piece : List ℕ) (r : Transfer) (next : List ℕ) : Type 0 where
  pub filled : Filled (length (left_of t piece)) (min (length (left_of t piece) + 1) (length piece)) (length piece) r.input
  pub front : take (length (left_of t piece)) next ≡ left_of t piece
  pub long : length next ≡ length piece
  pub other : r ≡ read_of t r.input

-- after a call that took so many bytes of what is left: it goes on from there, unless a block was refused or nothing was taken
abbrev pub taken_of : Transfer → Option Refusal → ℕ → List ℕ → Transfer
taken_of t ended bytes piece =
    record { input = t.input; from = t.from + min bytes (length (left_of t piece)); going = is_going ended && ltb 0 bytes; prompt = t.prompt; out = t.out; err = t.err }

-- with another state of its outputs
abbrev pub put_of : Transfer → Output → Output → Transfer
put_of t out err = record { input = t.input; from = t.from; going = t.going; prompt = t.prompt; out = out; err = err }

-- ---- printing

-- output that is not prompt is printed in pieces of so many bytes
abbrev pub printed : ℕ
printed = 262144

-- of so many bytes that are kept those that are printed now: all if output is prompt, else those that fill whole pieces
unfoldable pub ready_of : Transfer → ℕ → ℕ
ready_of t used = cond t.prompt used (used - used % printed)

-- so many bytes of what is kept were printed on each output
pub record Flushed (bytes others : ℕ) (t : Transfer) (lines told : List ℕ) (r : Transfer) (lines' told' : List ℕ) : Type 0 where
  pub out : Moved bytes t.out lines r.out lines'
  pub err : Moved others t.err told r.err told'
  pub other : r ≡ put_of t r.out r.err
