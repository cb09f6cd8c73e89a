-- The turns of a main, with the bytes that the reads bring: they make a program's calls as `walk` asks for them. Assumes nothing.
use Rattle.answers.specs.declared.Refusal.{Refusal}
use Rattle.std.specs.Prelude.{◌≡◌, Bool, true, false, List, [], ◌++◌, ℕ, ◌+◌, ◌*◌, ◌%◌, ◌^◌, ◌≤◌, ◌<◌, min, length, take, Option}
use Rattle.format.specs.Blocks.{block_bytes}
use Rattle.walk.specs.Blocks.{blocks_of}
use Rattle.walk.specs.Endings.{is_going}
use Rattle.walk.specs.Machines.{Machine, Session, Follows}
use Rattle.walk.specs.Pieces.{Octets}
use Rattle.walk.specs.Programs.{Printed, both, Program, printed_by}
use Rattle.shell.specs.Fills.{Filled, is_more, end_of}
use Rattle.shell.specs.Transfers.{left_of, rest_of, begun_of, read_of, taken_of, put_of}
use Rattle.shell.specs.Turns.{turn_of}
use Rattle.shell.specs.declared.printing.Output.{Output}
use Rattle.shell.specs.declared.reading.Input.{Input}
use Rattle.shell.specs.declared.transfers.Transfer.{Transfer}
use Rattle.shell.specs.declared.turns.Turn.TheVariants.{Take, Print, Read, Finish}

-- what was left and the first of the unread bytes stand in a buffer, and others are unread after them: none unless more may come. A trace of which a read
-- fails counts as the bytes before that, and one byte more if they are whole blocks
pub record Reads (enough : ℕ) (left : List ℕ) (input : Input) (buffer unread after : List ℕ) : Type 0 where
  pub filled : Filled (length left) enough (length buffer) input
  pub bytes : left ++ unread ≡ take (end_of input) buffer ++ after
  pub last : is_more input.ahead ≡ false → after ≡ []

-- what the calls print from a state on, with the piece that was read and the bytes that are unread: each turn as `turn_of` says, whatever is kept and printed
-- for it. `ended` is how a state says that a block was refused; `blocks` has room for a block at least
pub data Turns {H : Type 0} (m : Machine H) (ended : H → Option Refusal) : H → Transfer → List ℕ → List ℕ → Printed → Type 0 where
  take-turn : (h : H) (t : Transfer) (piece unread : List ℕ) (room : ℕ) (out err : Output) (q : Printed) → turn_of t piece ≡ Take
      → (is_going (ended (m.blocks h (left_of t piece) room).state) ≡ true → 1 ≤ (m.blocks h (left_of t piece) room).taken)
      → Turns m ended (m.blocks h (left_of t piece) room).state
      (put_of (taken_of t (ended (m.blocks h (left_of t piece) room).state) (m.blocks h (left_of t piece) room).taken piece) out err) piece unread q
      → Turns m ended h t piece unread (both (m.blocks h (left_of t piece) room).printed q)
  print_turn : (h : H) (t : Transfer) (piece unread : List ℕ) (out err : Output) (q : Printed) → turn_of t piece ≡ Print
      → Turns m ended h (put_of t out err) piece unread q → Turns m ended h t piece unread q
  read_turn : (h : H) (t : Transfer) (piece next unread after : List ℕ) (input : Input) (q : Printed) → turn_of t piece ≡ Read
      → Reads (min (length (left_of t piece) + 1) (length next)) (left_of t piece) input next unread after → Turns m ended h (read_of t input) next after q → Turns m ended h t piece unread q
  finish_turn : (h : H) (t : Transfer) (piece unread : List ℕ) → turn_of t piece ≡ Finish → Turns m ended h t piece unread (m.end h (rest_of t piece))

-- a main over a trace: block 0 is read into a buffer of its own, and the turns follow, with output prompt or not
pub data Main {H : Type 0} (m : Machine H) (ended : H → Option Refusal) (trace : List ℕ) : Printed → Type 0 where
  begun : (zeroth : Input) (prompt : Bool) (kept piece unread : List ℕ) (out err : Output) (q : Printed) → length kept ≡ block_bytes
      → Reads block_bytes [] zeroth kept trace unread
      → Turns m ended (m.begin (take (end_of zeroth) kept)).state
      (put_of (begun_of zeroth (ended (m.begin (take (end_of zeroth) kept)).state) prompt) out err) piece unread q
      → Main m ended trace (both (m.begin (take (end_of zeroth) kept)).printed q)

-- what the law asks of the calls: a state says once whether a block was refused; a block 0 that is not whole is; and `blocks` takes whole blocks of its piece
pub record Sound {H : Type 0} (m : Machine H) (ended : H → Option Refusal) : Type 0 where
  pub going : (h : H) → m.going h ≡ is_going (ended h)
  pub short : (zeroth : List ℕ) → length zeroth < block_bytes → m.going (m.begin zeroth).state ≡ false
  pub whole : (h : H) (piece : List ℕ) (room : ℕ) → (m.blocks h piece room).taken % block_bytes ≡ 0
  pub inside : (h : H) (piece : List ℕ) (room : ℕ) → (m.blocks h piece room).taken ≤ length piece

-- a main makes the calls on its trace as a session does
abbrev pub MainIsSession : Type 1
MainIsSession = (H : Type 0) (m : Machine H) (ended : H → Option Refusal) (trace : List ℕ) (q : Printed) → Sound m ended → Main m ended trace q → Session m trace q

-- so what they give, joined, is what the program prints, if no write fails
abbrev pub MainPrints : Type 1
MainPrints =
    (H S : Type 0) (m : Machine H) (p : Program S) (ended : H → Option Refusal) (trace : List ℕ) (q : Printed)
    → Follows m p → Sound m ended → Octets trace → length trace < block_bytes * 2 ^ 64 → Main m ended trace q → q ≡ printed_by p (blocks_of trace)
